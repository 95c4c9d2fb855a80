-- A segment's record, over any marks and of a log: document 01, "Segments and the board".
use Rattle.std.specs.Prelude.{ℕ, zero, suc, ◌-◌, Bool, true, false, ◌&&◌, List, [], ◌∷◌, leb, length}
use Rattle.rule.specs.Rule.{cuts_up_to}
use Rattle.cutting.specs.Marks.{mark}
use Rattle.board_bays.specs.Segments.{segment_start, segment_end}
use Rattle.terms.specs.declared.Settings.{Settings}
use Rattle.board_bays.specs.Bays.{Record}

-- the marks among the k offsets from p on
unfoldable pub marks_among : (mark : ℕ → Bool) (k p : ℕ) → List ℕ
marks_among mark zero p = []
marks_among mark (suc k) p = elim (mark p) [ true ↦ p ∷ marks_among mark k (suc p) | false ↦ marks_among mark k (suc p) ]

-- the marks above a, up to e
unfoldable pub marks_in : (mark : ℕ → Bool) (a e : ℕ) → List ℕ
marks_in mark a e = marks_among mark (e - a) (suc a)

-- b ends a marker piece that begins at its neighbour mark a: minimum <= b - a <= maximum - minimum
unfoldable pub is_marker : (minimum maximum a b : ℕ) → Bool
is_marker minimum maximum a b = leb minimum (b - a) && leb (b - a) (maximum - minimum)

-- one offset before those of a record
unfoldable pub prepend : (p : ℕ) (r : Record) → Record
prepend p r = record { marker = r.marker; offsets = p ∷ r.offsets }

module _ (mark : ℕ → Bool) (minimum maximum e : ℕ) where
  -- what is recorded after the mark a, of the marks that follow it up to e: all of them in slow mode until the marker, then the one-pass cuts
  unfoldable pub record_after : (a : ℕ) (marks : List ℕ) → Record
  record_after a [] = record { marker = 0; offsets = [] }
  record_after a (b ∷ marks) =
      elim (is_marker minimum maximum a b) [
        | true ↦ record { marker = b; offsets = b ∷ cuts_up_to mark minimum maximum e b }
        | false ↦ prepend b (record_after b marks)
      ]

  -- the first mark of a segment has no neighbour in it
  unfoldable pub slow_record : (marks : List ℕ) → Record
  slow_record [] = record { marker = 0; offsets = [] }
  slow_record (a ∷ marks) = prepend a (record_after a marks)

-- the record of segment i: segment 0 runs accelerated from 0, any other in slow mode until its marker
unfoldable pub segment_record : (mark : ℕ → Bool) (minimum maximum n size i : ℕ) → Record
segment_record mark minimum maximum n size zero = record { marker = 0; offsets = cuts_up_to mark minimum maximum (segment_end n size 0) 0 }
segment_record mark minimum maximum n size (suc i) =
    let e = segment_end n size (suc i) in slow_record mark minimum maximum e (marks_in mark (segment_start size (suc i)) e)

-- the record of segment i of a log
abbrev pub segment_of : (settings : Settings) (log : List ℕ) (size i : ℕ) → Record
segment_of settings log size i = segment_record (mark settings log) settings.minimum settings.maximum (length log) size i
