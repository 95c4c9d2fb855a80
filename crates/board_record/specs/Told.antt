-- A segment's record in document 01's words, as a statement: proofs/Told.antt shows that it holds of `segment_record`, over any marks.
use Rattle.std.specs.Prelude.{ℕ, suc, ◌-◌, ◌≤◌, ◌<◌, ◌≡◌, Bool, true, List, [], ◌∷◌, ◌⊎◌}
use Rattle.rule.specs.Rule.{Unmarked}
use Rattle.rule.specs.Ends.{UpToEnd}
use Rattle.board_bays.specs.Segments.{segment_start, segment_end}
use Rattle.board_bays.specs.Bays.{Record}

module _ (mark : ℕ → Bool) (minimum maximum n : ℕ) where
  -- after the mark a, up to e: all marks until the marker, the first whose neighbour mark before it is neither too near nor too far; after it the one-pass cuts
  pub data AfterMark (e : ℕ) : (a marker : ℕ) (offsets : List ℕ) → Type 0 where
    no_more : {a : ℕ} → Unmarked mark (suc a) (suc e) → AfterMark e a 0 []
    at_marker : {a b : ℕ} {cuts : List ℕ} → a < b → b ≤ e → mark b ≡ true → Unmarked mark (suc a) b
        → minimum ≤ b - a → b - a ≤ maximum - minimum → UpToEnd mark minimum maximum n e b cuts → AfterMark e a b (b ∷ cuts)
    no_marker : {a b marker : ℕ} {offsets : List ℕ} → a < b → b ≤ e → mark b ≡ true → Unmarked mark (suc a) b
        → (b - a < minimum) ⊎ (maximum - minimum < b - a) → AfterMark e b marker offsets → AfterMark e a marker (b ∷ offsets)

  -- the record of segment i
  pub data RecordTold (size : ℕ) : (i : ℕ) (r : Record) → Type 0 where
    first_segment : {offsets : List ℕ} → UpToEnd mark minimum maximum n (segment_end n size 0) 0 offsets
        → RecordTold size 0 (record { marker = 0; offsets = offsets })
    no_marks : {i : ℕ} → Unmarked mark (suc (segment_start size (suc i))) (suc (segment_end n size (suc i)))
        → RecordTold size (suc i) (record { marker = 0; offsets = [] })
    slow_mode : {i a marker : ℕ} {offsets : List ℕ} → segment_start size (suc i) < a → a ≤ segment_end n size (suc i) → mark a ≡ true
        → Unmarked mark (suc (segment_start size (suc i))) a → AfterMark (segment_end n size (suc i)) a marker offsets
        → RecordTold size (suc i) (record { marker = marker; offsets = a ∷ offsets })
