-- The same parts as statements, in document 01's words: proofs/Told.antt shows that they hold of the parts.
use Rattle.std.specs.Prelude.{ℕ, ◌+◌, ◌≤◌, ◌<◌, ◌≡◌, List, [], ◌∷◌, ◌++◌, map}
use Rattle.laws.specs.Last.{last_or}
use Rattle.lists.specs.WellFormed.{length_of}
use Rattle.amending.specs.declared.edits.Edit.{Edit}
use Rattle.amending.specs.Parts.{moved}

-- what holds of each entry of a list
pub data Every (holds : ℕ → Type 0) : List ℕ → Type 0 where
  none : Every holds []
  also : {x : ℕ} {l : List ℕ} → holds x → Every holds l → Every holds (x ∷ l)

-- the front is old cuts at most s and below the old end; each of the others is past s, or is the old end; cutting restarts at the last of the
-- front, or 0
pub record FrontTold (s : ℕ) (old front past : List ℕ) (restart : ℕ) : Type 0 where
  pub whole : front ++ past ≡ old
  pub low : Every (λ x. (x ≤ s) × (x < length_of old)) front
  pub high : Every (λ x. (x ≤ s → x ≡ length_of old)) past
  pub restarts : restart ≡ last_or 0 front

-- t is no meeting: below the change's end, or its place in the old log is no old cut past the front
abbrev pub NoMeeting : (edit : Edit) (past : List ℕ) (t : ℕ) → Type 0
NoMeeting edit past t = edit.at + edit.added ≤ t → Every (λ x. (x + edit.added ≡ t + edit.removed → ⊥)) past

-- the recut, the back and the end of the recut stretch, given the old cuts past the front, the new length n and the new cuts from the last
-- front cut on
pub data Recut (edit : Edit) (past : List ℕ) (n : ℕ) : (news recut back : List ℕ) (stretch_end : ℕ) → Type 0 where
  meeting : {news recut : List ℕ} (t x : ℕ) (later passed rest : List ℕ) → news ≡ recut ++ (t ∷ later) → Every (NoMeeting edit past) recut
      → edit.at + edit.added ≤ t → past ≡ passed ++ (x ∷ rest) → x + edit.added ≡ t + edit.removed → Recut edit past n news recut (map (moved edit) (x ∷ rest)) t
  no_meeting : {news : List ℕ} → Every (NoMeeting edit past) news → Recut edit past n news news [] n
