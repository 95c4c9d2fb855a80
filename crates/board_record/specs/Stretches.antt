-- A segment with its lead-in as a stretch inside the log: its marks, and what the inner functions find in it.
use Rattle.std.specs.Prelude.{ℕ, ◌+◌, ◌-◌, ◌≡◌, Bool, List, length}
use Rattle.terms.specs.declared.Settings.{Settings}
use Rattle.cutting.specs.Marks.{mark}
use Rattle.std.proofs.lemmas.List.Edits.{sets}
use Rattle.board_record.specs.declared.Recorded.{Recorded}
use Rattle.board_bays.specs.Bays.{Record}
use Rattle.board_record.specs.Records.{record_after, slow_record, marks_in}

-- the marks of a stretch that begins at offset base of its log
unfoldable pub mark_from : (settings : Settings) (stretch : List ℕ) (base p : ℕ) → Bool
mark_from settings stretch base p = mark settings stretch (p - base)

-- what is recorded after a mark of the stretch, and of the whole stretch past its lead-in
unfoldable pub after_in : (settings : Settings) (stretch : List ℕ) (base at : ℕ) → Record
after_in settings stretch base at =
    let e = base + length stretch in
    record_after (mark_from settings stretch base) settings.minimum settings.maximum e (base + at) (marks_in (mark_from settings stretch base) (base + at) e)

unfoldable pub slow_in : (settings : Settings) (stretch : List ℕ) (base : ℕ) → Record
slow_in settings stretch base =
    let e = base + length stretch in
    slow_record (mark_from settings stretch base) settings.minimum settings.maximum e (marks_in (mark_from settings stretch base) (base + 47) e)

-- a record whose offsets are written from so many places on
pub record Records (r : Record) (before : ℕ) (after : Recorded) (list₀ list : List ℕ) : Type 0 where
  pub counted : after.count ≡ before + length r.offsets
  pub marked : after.marker ≡ r.marker
  pub kept : list ≡ sets list₀ before r.offsets
