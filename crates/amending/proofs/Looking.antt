-- Looking for the meeting in a rising list: what a look tells, and what each way out of it answers.
use Prim.Native.Nat.{ℕ, suc, ◌+◌, ◌≤◌, ◌<◌}
use mathlib.Core.Path.{◌≡◌, refl, sym, ap, ◌∙◌, subst}
use mathlib.Core.Bool.{Bool, true, false, not}
use mathlib.Core.List.{List, ◌∷◌}
use native.Mathlib.Omega.{arith}
use lib.Dec.{leb, eqb}
use lib.ListN.{length, get_or, drop, length-append, length-drop}
use lib.Seq.{drop-cons, get_or-drop}
use borrow.Author.Tests.{le-leb, lt-leb, leb-true, leb-false, eqb-true, eqb-false, eq-eqb, ne_eqb}
use Rattle.std.proofs.Common.{Option, None, Some, Bor}
use Rattle.std.specs.Option.{option_eq}
use Rattle.std.specs.Slice.{IsItemAt}
use Rattle.laws.proofs.Cases.{by_lt, by_test, clash}
use Rattle.lists.specs.WellFormed.{is_empty}
use Rattle.amending.specs.declared.edits.Edit.{Edit}
use Rattle.amending.specs.Parts.{until, from, was_at, meets}
use Rattle.amending.specs.Inner.{Ascends, place_of, passed_by}
use Rattle.amending.proofs.Split.{Split, here, split, joined, left_over, heads, from_is, from_later, from_none}

-- what a look at the new cut t tells of the old cuts that are left: whether t meets one of them, which then are left, and that no later
-- new cut can meet one that was passed
pub record Looked (edit : Edit) (t : ℕ) (left : List ℕ) (passed : ℕ) (met : Bool) : Type 0 where
  pub within : passed ≤ length left
  pub told : met ≡ meets edit left t
  pub onward : met ≡ true → drop passed left ≡ from (was_at edit t) left
  pub behind : (t' : ℕ) → t < t' → from (was_at edit t') left ≡ from (was_at edit t') (drop passed left)

pub ascends_after : (k : ℕ) (l : List ℕ) → Ascends l → Ascends (drop k l)
ascends_after k l rises i j h fits =
    rw (get_or-drop, get_or-drop) (rises (k + i) (k + j) (omega arith) (omega (arith, length-drop k l)))

-- its first entry is the least
pub first_least : (l : List ℕ) → Ascends l → (i : ℕ) → i < length l → get_or l 0 0 ≤ get_or l i 0
first_least l rises i h = by_lt 0 i (λ up. omega (arith, rises 0 i up h)) (λ low. let same : 0 ≡ i = omega arith in omega (arith, ap (λ j. get_or l j 0) same))

not_there : (edit : Edit) (t x : ℕ) → (x + edit.added ≡ t + edit.removed → ⊥) → was_at edit t x ≡ false
unfolding was_at
not_there edit t x other = ne_eqb _ _ other

-- whether the next old cut, as the list lends it, is at an offset
abbrev is_at : Option (Bor ℕ) → Bor ℕ → Bool
is_at next offset = option_eq (λ x y. eqb x.now y.now) next (Some offset)

module _ (edit : Edit) (t : ℕ) (left : List ℕ) where
  -- below the change's end
  pub look_early : t < edit.at + edit.added → (0 ≡ passed_by edit left t) × (false ≡ meets edit left t)
  unfolding passed_by meets
  look_early early = (rw (lt-leb _ t early, passed_by), rw (lt-leb _ t early))

  -- past it: r old cuts are below the place of t
  module _ (far : edit.at + edit.added ≤ t) (r : ℕ) (stops : r ≡ length (until (leb (place_of edit t)) left)) where
    pub look_passes : r ≡ passed_by edit left t
    unfolding passed_by
    look_passes = rw (le-leb _ t far, passed_by) stops

    remains : drop r left ≡ from (leb (place_of edit t)) left
    remains = ap (λ k. drop k left) stops ∙ left_over (split (leb (place_of edit t)) left)

    -- an old cut below that place is met by neither t nor a later new cut
    skipped : (t' : ℕ) → t ≤ t' → from (was_at edit t') left ≡ from (was_at edit t') (drop r left)
    skipped t' h =
        from_later (was_at edit t') (λ x low. let below : x < place_of edit t = leb-false _ x low in not_there edit t' x (λ is. omega arith)) (split (leb (place_of edit t)) left)
        ∙ ap (from (was_at edit t')) (sym remains)

    meets_by : {k : List ℕ} → from (was_at edit t) left ≡ k → not (is_empty k) ≡ meets edit left t
    unfolding meets
    meets_by e = rw (e, le-leb (edit.at + edit.added) t far)

    -- none of the old cuts from there on is at that place
    unmet : ((i : ℕ) → i < length (drop r left) → get_or (drop r left) i 0 ≡ place_of edit t → ⊥) → false ≡ meets edit left t
    unfolding is_empty
    unmet other = meets_by (skipped t (omega arith) ∙ from_none (was_at edit t) (drop r left) (λ i h. not_there edit t (get_or (drop r left) i 0) (λ is. other i h (omega arith))))

    pub look_end : length left ≤ r → false ≡ meets edit left t
    look_end h = unmet (λ i below. absurd (omega (arith, length-drop r left)))

    module _ (rises : Ascends left) (inside : r < length left) where
      there : drop r left ≡ get_or left r 0 ∷ drop (suc r) left
      there = drop-cons left r 0 inside

      hit : eqb (get_or left r 0) (place_of edit t) ≡ true → from (was_at edit t) left ≡ get_or left r 0 ∷ drop (suc r) left
      unfolding was_at
      hit e =
          let at : get_or left r 0 + edit.added ≡ t + edit.removed = omega (arith, eqb-true (get_or left r 0) _ e) in
          skipped t (omega arith) ∙ ap (from (was_at edit t)) there ∙ from_is (was_at edit t) (here (eq-eqb _ _ at))

      pub look_at : eqb (get_or left r 0) (place_of edit t) ≡ meets edit left t
      unfolding is_empty
      look_at =
          by_test (eqb (get_or left r 0) (place_of edit t))
          (λ e. e ∙ meets_by (hit e))
          (λ e. let high : place_of edit t ≤ get_or left r 0 =
          leb-true _ _ (heads (subst (Split (leb (place_of edit t)) left (until (leb (place_of edit t)) left)) (sym remains ∙ there) (split _ left))) in
          e ∙ unmet (λ i below is. eqb-false (get_or left r 0) _ e
          (omega (arith, ap (λ l. get_or l 0 0) there, first_least (drop r left) (ascends_after r left rises) i below))))

    -- the next old cut is at that place just where t meets one
    next_met : Ascends left → (next : Option (Bor ℕ)) → IsItemAt left r next → (offset : Bor ℕ) → offset.now ≡ place_of edit t
        → is_at next offset ≡ meets edit left t
    next_met rises None item offset is = look_end item.3
    next_met rises (Some x) item offset is = rw (item.4 (omega arith) 0, is) (look_at rises item.3.0)

    -- how many old cuts a look past the change's end passes, and that comparing the next of them finds whether t meets one
    pub look_next : Ascends left → (next : Option (Bor ℕ)) → IsItemAt left r next → (offset : Bor ℕ) → offset.now ≡ place_of edit t
        → {met : Bool} → met ≡ is_at next offset → (r ≡ passed_by edit left t) × (meets edit left t ≡ met)
    look_next rises next item offset is told = (look_passes, sym (told ∙ next_met rises next item offset is))

    look_past : Ascends left → Looked edit t left r (meets edit left t)
    look_past rises = record {
      within = omega (arith, length-append (until (leb (place_of edit t)) left) (from (leb (place_of edit t)) left), ap length (joined (split (leb (place_of edit t)) left)));
      told = refl;
      onward = λ met. by_lt r (length left)
          (λ inside. there rises inside ∙ sym (hit rises inside (look_at rises inside ∙ met)))
          (λ over. absurd (clash (sym met ∙ sym (look_end over))));
      behind = λ t' h. skipped t' (omega arith);
    }

  pub looked : {passed : ℕ} {met : Bool} → Ascends left → passed ≡ passed_by edit left t → met ≡ meets edit left t → Looked edit t left passed met
  looked rises is told = rw (is, told) (by_lt t (edit.at + edit.added)
      (λ early. let (passes, meets) = look_early early in
      rw (← passes, ← meets) (record { within = omega arith; told = meets; onward = λ met. absurd (clash (sym met)); behind = λ t' h. refl }))
      (λ far. rw (← look_passes far _ refl) (look_past far _ refl rises)))
