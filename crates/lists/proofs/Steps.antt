-- Judging a list entry by entry: one step more, and the end.
use mathlib.Core.Path.{◌≡◌, refl, sym, ◌∙◌}
use mathlib.Core.Bool.{Bool, true, false, ◌&&◌}
use mathlib.Core.List.{List, [], ◌∷◌}
use Prim.Native.Nat.{ℕ, zero, suc, ◌+◌, ◌^◌, ◌≤◌, ◌<◌}
use native.Mathlib.Numerals.{add-one}
use native.Mathlib.Nat.{le_of_suc-le-suc, not-suc-le-zero}
use lib.Dec.{leb, eqb, eqb-suc-suc, eqb-zero-suc}
use lib.ListN.{length, get_or, drop, drop_of_length-le}
use lib.Seq.{drop-cons}
use Rattle.lists.specs.WellFormed.{step_fits, steps_fit, is_empty}

-- nothing follows place i exactly where the list ends there
is_empty_drop : (list : List ℕ) (i : ℕ) → i ≤ length list → is_empty (drop i list) ≡ eqb i (length list)
unfolding is_empty
is_empty_drop [] zero h = refl
is_empty_drop [] (suc i) h = absurd (not-suc-le-zero h)
is_empty_drop (x ∷ list) zero h = sym (eqb-zero-suc (length list))
is_empty_drop (x ∷ list) (suc i) h = is_empty_drop list i (le_of_suc-le-suc h) ∙ sym (eqb-suc-suc i (length list))

module _ (minimum maximum before : ℕ) (list : List ℕ) (i : ℕ) where
  -- the steps from place i on are the step to its entry and those after it
  step_more : i < length list
      → steps_fit minimum maximum before (drop i list)
      ≡ step_fits minimum maximum (eqb (i + 1) (length list)) before (get_or list i 0) && steps_fit minimum maximum (get_or list i 0) (drop (i + 1) list)
  unfolding steps_fit
  step_more h = rw (drop-cons list i 0 h, add-one, is_empty_drop list (suc i) h)

  -- an entry whose step fits is passed, and one whose step does not fit decides
  pub step_passed : (r : Bool) → i < length list → r ≡ step_fits minimum maximum (eqb (i + 1) (length list)) before (get_or list i 0) → r ≡ true
      → steps_fit minimum maximum before (drop i list) ≡ steps_fit minimum maximum (get_or list i 0) (drop (i + 1) list)
  step_passed r h e t = step_more h ∙ rw (← e, t)

  pub step_refused : (r : Bool) → i < length list → r ≡ step_fits minimum maximum (eqb (i + 1) (length list)) before (get_or list i 0) → r ≡ false
      → steps_fit minimum maximum before (drop i list) ≡ false
  step_refused r h e t = step_more h ∙ rw (← e, t)

  -- at the list's end only its bound is left
  pub steps_end : length list ≤ i → steps_fit minimum maximum before (drop i list) ≡ leb before (2 ^ 40)
  unfolding steps_fit
  steps_end h = rw (drop_of_length-le list h)
