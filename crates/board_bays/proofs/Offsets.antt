-- Judging a bay's offsets one by one: what is left to judge from place k on.
use mathlib.Core.Path.{◌≡◌, refl, ap, ◌∙◌}
use mathlib.Core.Bool.{Bool, false, ◌&&◌}
use mathlib.Core.List.{List, [], ◌∷◌}
use Prim.Native.Nat.{ℕ, zero, suc, ◌+◌, ◌-◌, ◌≤◌, ◌<◌}
use native.Mathlib.Omega.{arith}
use native.Mathlib.Numerals.{add-one}
use lib.Dec.{leb, ltb, eqb}
use lib.ListN.{length, get_or, take, drop, drop_of_length-le}
use lib.Seq.{drop-cons}
use borrow.Author.Tests.{eq-eqb, ne_eqb, eqb-true, eqb-false}
use Rattle.std.specs.Prelude.{Some, None, position}
use Rattle.std.specs.List.{position_or_len}
use Rattle.std.proofs.lemmas.Grind.{common_steps}
use Rattle.std.proofs.lemmas.List.Quantifiers.{position-Some}
use Rattle.std.proofs.lemmas.List.Sums.{fails_before_first}
use Rattle.laws.proofs.Cases.{by_test, or-true}
use Rattle.laws.proofs.Slices.{rest_from}
use Rattle.lists.specs.WellFormed.{step_fits}
use Rattle.board_bays.specs.Inner.{each_step}
use Rattle.board_bays.specs.Bays.{Record, rises_within, steps_within, is_listed, followers, from_marker, marker_fits}

-- the two tests of a record's steps
pub rises_by_steps : (a last : ℕ) (offsets : List ℕ) → rises_within a last offsets ≡ each_step (λ (x p : ℕ). ltb x p && leb p last) a offsets
unfolding rises_within each_step
rises_by_steps a last [] = refl
rises_by_steps a last (p ∷ offsets) =
    by_test (ltb a p) (λ t. rw t (ap (λ (b : Bool). leb p last && b) (rises_by_steps p last offsets))) (λ f. rw f)

pub steps_by_steps : (minimum maximum a : ℕ) (offsets : List ℕ) → steps_within minimum maximum a offsets ≡ each_step (step_fits minimum maximum false) a offsets
unfolding steps_within each_step
steps_by_steps minimum maximum a [] = refl
steps_by_steps minimum maximum a (p ∷ offsets) = ap (λ (b : Bool). step_fits minimum maximum false a p && b) (steps_by_steps minimum maximum p offsets)

module _ (offsets : List ℕ) (k : ℕ) (h : k < length offsets) where
  pub step_at : (test : ℕ → ℕ → Bool) (a : ℕ) → each_step test a (drop k offsets) ≡ test a (get_or offsets k 0) && each_step test (get_or offsets k 0) (drop (k + 1) offsets)
  unfolding each_step
  step_at test a = rw (drop-cons offsets k 0 h, add-one)

  module _ (minimum maximum marker : ℕ) where
    pub marker_on : (get_or offsets k 0 ≡ marker → ⊥) → from_marker minimum maximum marker (drop k offsets) ≡ from_marker minimum maximum marker (drop (k + 1) offsets)
    unfolding from_marker is_listed followers
    marker_on other = rw (drop-cons offsets k 0 h, add-one, ne_eqb _ _ other, is_listed, followers)

    -- the offsets after it as the code lends them
    pub marker_here : get_or offsets k 0 ≡ marker
        → from_marker minimum maximum marker (drop k offsets) ≡ steps_within minimum maximum marker (take (length offsets - (k + 1)) (drop (k + 1) offsets))
    unfolding from_marker is_listed followers
    marker_here e = rw (drop-cons offsets k 0 h, eq-eqb _ _ e, is_listed, followers, or-true, rest_from offsets (k + 1), add-one)

-- the marker does not stand before place k
pub marker_past : (offsets : List ℕ) (minimum maximum marker k : ℕ) → k ≤ length offsets → ((j : ℕ) → j < k → eqb (get_or offsets j 0) marker ≡ false)
    → from_marker minimum maximum marker offsets ≡ from_marker minimum maximum marker (drop k offsets)
marker_past offsets minimum maximum marker zero h others = refl
marker_past offsets minimum maximum marker (suc k) h others =
    marker_past offsets minimum maximum marker k (omega arith) (λ j below. others j (omega arith))
    ∙ marker_on offsets k (omega arith) minimum maximum marker (eqb-false _ _ (others k (omega arith)))
    ∙ rw add-one

pub marker_none : (offsets : List ℕ) (k : ℕ) → length offsets ≤ k → (minimum maximum marker : ℕ) → from_marker minimum maximum marker (drop k offsets) ≡ eqb marker 0
unfolding from_marker is_listed followers steps_within
marker_none offsets k h minimum maximum marker = rw (drop_of_length-le offsets h) (by_test (eqb marker 0) (λ t. rw t) (λ t. rw t))

-- the marker's place as the library tells it
module _ (offsets : List ℕ) (minimum maximum marker : ℕ) where
  pub marker_found : (k : ℕ) → position (λ (p : ℕ). eqb p marker) offsets ≡ Some k
      → from_marker minimum maximum marker offsets ≡ steps_within minimum maximum marker (take (length offsets - (k + 1)) (drop (k + 1) offsets))
  marker_found k e =
      let at = position-Some (λ (p : ℕ). eqb p marker) offsets k 0 e in
      marker_past offsets minimum maximum marker k (omega (arith, at.0)) at.2
      ∙ marker_here offsets k at.0 minimum maximum marker (eqb-true _ _ at.1)

  pub marker_nowhere : position (λ (p : ℕ). eqb p marker) offsets ≡ None → from_marker minimum maximum marker offsets ≡ eqb marker 0
  marker_nowhere e =
      let past : length offsets ≤ position_or_len (λ (p : ℕ). eqb p marker) offsets = grind (arith, common_steps) in
      marker_past offsets minimum maximum marker (length offsets) (omega arith) (λ j h. fails_before_first (λ (p : ℕ). eqb p marker) offsets j 0 (omega arith))
      ∙ marker_none offsets (length offsets) (omega arith) minimum maximum marker

-- segment 0, and any other
module _ (minimum maximum : ℕ) (r : Record) where
  pub first_marker : (i : ℕ) → i ≤ 0 → marker_fits minimum maximum i r ≡ eqb r.marker 0 && steps_within minimum maximum 0 r.offsets
  unfolding marker_fits
  first_marker zero h = refl
  first_marker (suc i) h = absurd (omega arith)

  pub later_marker : (i : ℕ) → 0 < i → marker_fits minimum maximum i r ≡ from_marker minimum maximum r.marker r.offsets
  unfolding marker_fits
  later_marker zero h = absurd (omega arith)
  later_marker (suc i) h = refl
