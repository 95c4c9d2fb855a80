-- What the inner functions ask and tell.
use Rattle.std.specs.Prelude.{ℕ, ◌+◌, ◌-◌, ◌≤◌, ◌<◌, ◌^◌, ◌≡◌, true, false, List, [], ◌∷◌, map, leb, length, get_or, drop, Err}
use Rattle.terms.specs.Rows.{verdict, ruled}
use Rattle.lists.specs.declared.Made.{Made}
use Rattle.lists.specs.Puts.{Puts}
use Rattle.lists.specs.Written.{guard}
use Rattle.amending.specs.declared.edits.Edit.{Edit}
use Rattle.amending.specs.Answers.{Amendment}
use Rattle.amending.specs.Parts.{until, from, meets, moved, back_from, amended_list}
use Rattle.amending.specs.Answers.{counts}

-- the entries rise
abbrev pub Ascends : (l : List ℕ) → Type 0
Ascends l = (i j : ℕ) → i < j → j < length l → get_or l i 0 < get_or l j 0

-- each entry can be moved by e - d within 64 bits
abbrev pub Movable : (removed added : ℕ) (l : List ℕ) → Type 0
Movable removed added l = (i : ℕ) → i < length l → (removed ≤ get_or l i 0 + added) × (get_or l i 0 + added < 2 ^ 64)

-- the place of the new cut t in the old log: t - e + d
abbrev pub place_of : (edit : Edit) (t : ℕ) → ℕ
place_of edit t = t - edit.added + edit.removed

-- how many of the old cuts that are left a look at t passes: those below its place; none where t is below the change's end
unfoldable pub passed_by : (edit : Edit) (left : List ℕ) (t : ℕ) → ℕ
passed_by edit left t = elim (leb (edit.at + edit.added) t) [ true ↦ length (until (leb (place_of edit t)) left) | false ↦ 0 ]

-- what recutting tells: the cuts up to the meeting are made, and the old cuts from the meeting on, which can be moved, make the back
pub record Recutted (edit : Edit) (past news : List ℕ) (before after : Made) (list₀ list : List ℕ) (passed : ℕ) : Type 0 where
  pub puts : Puts (until (meets edit past) news) before after list₀ list
  pub within : passed ≤ length past
  pub onward : back_from edit past (from (meets edit past) news) ≡ map (moved edit) (drop passed past)
  pub movable : (i : ℕ) → i < length (drop passed past) → edit.removed ≤ get_or (drop passed past) i 0 + edit.added

-- writing the three parts into a list with so many places: their counts, or the guard
unfoldable pub parts_answer : (new_cuts : ℕ → List ℕ) (old : List ℕ) (edit : Edit) (room : ℕ) → Amendment
parts_answer new_cuts old edit room = ruled (verdict (guard (amended_list new_cuts old edit) room ∷ [])) Err (counts new_cuts old edit)
