-- Lists of cuts: document 01, "Amending".
use Rattle.std.specs.Prelude.{ℕ, ◌-◌, Bool, true, false, ◌&&◌, ◌||◌, List, [], ◌∷◌, leb, ltb}
use Rattle.laws.specs.Last.{last_or}
use Rattle.terms.specs.Answers.{longest}

-- a step that rises, is at most maximum, and is at least minimum unless it is the last
unfoldable pub step_fits : (minimum maximum : ℕ) → (last : Bool) → (before entry : ℕ) → Bool
step_fits minimum maximum last before entry =
    ltb before entry && (leb (entry - before) maximum && (last || leb minimum (entry - before)))

unfoldable pub is_empty : List ℕ → Bool
is_empty [] = true
is_empty (entry ∷ rest) = false

-- every step from before on fits, and the list ends at 2^40 or below
unfoldable pub steps_fit : (minimum maximum before : ℕ) → List ℕ → Bool
steps_fit minimum maximum before [] = leb before longest
steps_fit minimum maximum before (entry ∷ rest) =
    step_fits minimum maximum (is_empty rest) before entry && steps_fit minimum maximum entry rest

-- empty, or strictly rising from above 0 with steps (0 to the first included) from minimum to maximum, only the last step
-- being allowed from 1, and ending at 2^40 or below
unfoldable pub well_formed : (minimum maximum : ℕ) → List ℕ → Bool
well_formed minimum maximum list = steps_fit minimum maximum 0 list

-- the length of a list's log: its last entry, or 0
unfoldable pub length_of : List ℕ → ℕ
length_of list = last_or 0 list
