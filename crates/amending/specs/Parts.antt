-- The three parts of an amended list: document 01, "Amending". The edit replaces d bytes at s by e bytes: they are its fields removed, at
-- and added. What the rule makes of the new log is handed in: new_cuts c are the new log's cuts after the cut c.
use Rattle.std.specs.Prelude.{ℕ, suc, ◌+◌, ◌-◌, Bool, true, false, ◌&&◌, not, List, [], ◌∷◌, ◌++◌, map, leb, eqb, take, drop}
use Rattle.laws.specs.Last.{last_or}
use Rattle.lists.specs.WellFormed.{is_empty}
use Rattle.amending.specs.declared.edits.Edit.{Edit}

-- how many old cuts are at most s, the old end excepted
unfoldable pub front_count : (s : ℕ) (old : List ℕ) → ℕ
front_count s [] = 0
front_count s (old_end ∷ []) = 0
front_count s (cut ∷ following ∷ rest) = elim (leb cut s) [ true ↦ suc (front_count s (following ∷ rest)) | false ↦ 0 ]

-- front: old cuts at most s, the old end excepted
unfoldable pub front : (s : ℕ) (old : List ℕ) → List ℕ
front s old = take (front_count s old) old

unfoldable pub past_front : (s : ℕ) (old : List ℕ) → List ℕ
past_front s old = drop (front_count s old) old

-- cutting restarts at the last front cut, or 0
unfoldable pub restart : (s : ℕ) (old : List ℕ) → ℕ
restart s old = last_or 0 (front s old)

-- the entries before the first that passes the test, and those from it on
unfoldable pub until : (test : ℕ → Bool) (l : List ℕ) → List ℕ
until test [] = []
until test (x ∷ rest) = elim (test x) [ true ↦ [] | false ↦ x ∷ until test rest ]

unfoldable pub from : (test : ℕ → Bool) (l : List ℕ) → List ℕ
from test [] = []
from test (x ∷ rest) = elim (test x) [ true ↦ x ∷ rest | false ↦ from test rest ]

-- whether t - e + d, the place of t in the old log, is the old cut x
unfoldable pub was_at : (edit : Edit) (t x : ℕ) → Bool
was_at edit t x = eqb (x + edit.added) (t + edit.removed)

-- t is at or past the change's end, and its place in the old log is an old cut past the front
unfoldable pub meets : (edit : Edit) (past : List ℕ) (t : ℕ) → Bool
meets edit past t = leb (edit.at + edit.added) t && not (is_empty (from (was_at edit t) past))

-- an old cut moved by e - d
abbrev pub shifted : (removed added x : ℕ) → ℕ
shifted removed added x = x + added - removed

abbrev pub moved : (edit : Edit) (x : ℕ) → ℕ
moved edit x = shifted edit.removed edit.added x

-- the first entry, or other where there is none
unfoldable pub first_or : (other : ℕ) (l : List ℕ) → ℕ
first_or other [] = other
first_or other (x ∷ rest) = x

-- the back, given the new cuts from the meeting on: the old cut at the meeting and all later ones, moved; none where nothing meets
unfoldable pub back_from : (edit : Edit) (past news : List ℕ) → List ℕ
back_from edit past [] = []
back_from edit past (t ∷ later) = map (moved edit) (from (was_at edit t) past)

module _ (new_cuts : ℕ → List ℕ) (old : List ℕ) (edit : Edit) where
  -- recut: one-pass from the last front cut (or 0) up to, not including, the meeting, the first new cut that meets
  unfoldable pub recut : List ℕ
  recut = until (meets edit (past_front edit.at old)) (new_cuts (restart edit.at old))

  unfoldable pub back : List ℕ
  back = back_from edit (past_front edit.at old) (from (meets edit (past_front edit.at old)) (new_cuts (restart edit.at old)))

  unfoldable pub amended_list : List ℕ
  amended_list = front edit.at old ++ (recut ++ back)

  -- the recut stretch is the new log's bytes from the restart to the meeting, or to the new end n where there is none
  unfoldable pub stretch_end : (n : ℕ) → ℕ
  stretch_end n = first_or n (from (meets edit (past_front edit.at old)) (new_cuts (restart edit.at old)))
