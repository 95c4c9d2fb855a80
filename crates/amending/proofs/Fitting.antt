-- The test of an edit: what a test that passed says, and the new length as the code compares it, without wrapping.
use Prim.Native.Nat.{ℕ, ◌+◌, ◌-◌, ◌≤◌, ◌<◌}
use mathlib.Core.Path.{◌≡◌, sym, ◌∙◌}
use mathlib.Core.Bool.{Bool, true, false}
use native.Mathlib.Omega.{arith}
use lib.Dec.{eqb}
use borrow.Author.Tests.{le-leb, eq-eqb, ne_eqb, leb-true, eqb-true, eqb-false}
use Rattle.laws.proofs.Cases.{both_true, by_test}
use Rattle.amending.specs.declared.edits.Edit.{Edit}
use Rattle.amending.specs.Answers.{edit_fits}

module _ (n : ℕ) (edit : Edit) (bytes : ℕ) where
  pub edit_told : edit_fits n edit bytes ≡ true → (edit.at + edit.removed ≤ n) × (n + edit.added ≡ bytes + edit.removed)
  unfolding edit_fits
  edit_told ok =
      let a = both_true ok in
      let b = both_true a.1 in
      let low : edit.at ≤ n = leb-true _ _ a.0 in
      let inside : edit.removed ≤ n - edit.at = leb-true _ _ b.0 in
      let is : bytes ≡ n - edit.removed + edit.added = eqb-true _ _ b.1 in
      omega arith

  module _ (low : edit.at ≤ n) (inside : edit.removed ≤ n - edit.at) where
    by_length : {r : Bool} → eqb bytes (n - edit.removed + edit.added) ≡ r → edit_fits n edit bytes ≡ r
    unfolding edit_fits
    by_length e = rw (le-leb edit.at n low, le-leb edit.removed (n - edit.at) inside) e

    pub edit_fits_lem : n + edit.added ≡ bytes + edit.removed → edit_fits n edit bytes ≡ true
    edit_fits_lem h = let is : bytes ≡ n - edit.removed + edit.added = omega arith in by_length (eq-eqb _ _ is)

    edit_fails : (bytes ≡ n - edit.removed + edit.added → ⊥) → edit_fits n edit bytes ≡ false
    edit_fails other = by_length (ne_eqb _ _ other)

    -- more bytes added than there are, or else the lengths without them
    pub edit_over : bytes < edit.added → edit_fits n edit bytes ≡ false
    edit_over h = edit_fails (λ is. omega arith)

    pub edit_compared : edit.added ≤ bytes → eqb (bytes - edit.added) (n - edit.removed) ≡ edit_fits n edit bytes
    edit_compared h =
        by_test (eqb (bytes - edit.added) (n - edit.removed))
        (λ e. let is : bytes - edit.added ≡ n - edit.removed = eqb-true _ _ e in e ∙ sym (edit_fits_lem (omega arith)))
        (λ e. e ∙ sym (edit_fails (λ is. eqb-false (bytes - edit.added) (n - edit.removed) e (omega arith))))
