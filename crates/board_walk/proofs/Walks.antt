-- The walk's steps, as the code makes them: an offset read, a bay, all bays, the end.
use Prim.Native.Nat.{ℕ, ◌+◌, ◌-◌, ◌≤◌, ◌<◌, ◌^◌}
use mathlib.Core.Path.{◌≡◌, sym, ap, ◌∙◌}
use mathlib.Core.Bool.{true, false, ◌&&◌}
use mathlib.Core.List.{List, [], ◌∷◌, ◌++◌}
use native.Mathlib.Omega.{arith}
use lib.Dec.{eqb}
use lib.ListN.{length, get_or, drop}
use borrow.Author.Tests.{eq-eqb, ne_eqb, eqb-true}
use Rattle.laws.proofs.Cases.{by_lt, by_test, and-false}
use Rattle.rule.specs.Rule.{last_or}
use Rattle.lists.specs.declared.Made.{Made}
use Rattle.board_bays.specs.Bays.{rises_within}
use Rattle.board_walk.specs.Walk.{forced_up_to, read_offset, read_as_marks}
use Rattle.lists.specs.Puts.{Puts}
use Rattle.laws.proofs.Last.{last_joined}
use Rattle.board_walk.proofs.Offsets.{forced_last, offset_near, offset_far, read_on, read_switch}
use Rattle.board_walk.proofs.Rises.{offsets_on, offsets_end, rises_wider, rest_rises, next-rises}
use Rattle.lists.proofs.Putting.{Underway, joined, more, rest-is}

-- an offset, once the cuts below it are forced
module _ (lo hi p : ℕ) (before forced : Made) (list₀ list : List ℕ) (positive : 1 ≤ hi) (above : before.cut < p)
    (made : Puts (forced_up_to hi (p - 1) before.cut) before forced list₀ list) where
  pub forced_below : forced.cut < p
  forced_below = omega (arith, made.last, forced_last hi positive before.cut (p - 1) (omega arith))

  pub offset_passed : p - forced.cut < lo → Puts (read_offset lo hi before.cut p) before forced list₀ list
  offset_passed near =
      let b = forced_below in
      let close : p < last_or before.cut (forced_up_to hi (p - 1) before.cut) + lo = rw (← made.last) (omega arith) in
      rw (offset_near lo hi before.cut p close) made

  pub offset_cut : lo ≤ p - forced.cut → {after : Made} {list' : List ℕ} → Puts (p ∷ []) forced after list list'
      → Puts (read_offset lo hi before.cut p) before after list₀ list'
  offset_cut far one =
      let b = forced_below in
      let away : last_or before.cut (forced_up_to hi (p - 1) before.cut) + lo ≤ p = rw (← made.last) (omega arith) in
      rw (offset_far lo hi before.cut p away) (joined made one)

-- an offset read is not passed
pub offset_last : (lo hi c p : ℕ) → 1 ≤ hi → c < p → last_or c (read_offset lo hi c p) ≤ p
unfolding last_or
offset_last lo hi c p positive above =
    let m : ℕ = last_or c (forced_up_to hi (p - 1) c) in
    let f = forced_last hi positive c (p - 1) (omega arith) in
    by_lt p (m + lo)
    (λ close. rw (offset_near lo hi c p close) (omega arith))
    (λ far. rw (offset_far lo hi c p far, last_joined) (omega arith))

-- the offset at place k, and those after it
module _ (lo hi marker : ℕ) (offsets : List ℕ) (k : ℕ) (h : k < length offsets) (positive : 1 ≤ hi) {whole : List ℕ} {before : Made} {list₀ : List ℕ} {from after : Made}
    {list list' : List ℕ} (made : Puts (read_offset lo hi from.cut (get_or offsets k 0)) from after list list')
    (u : Underway whole (read_as_marks lo hi marker from.cut (drop k offsets)) before from list₀ list) where
  pub marks_on : (after.cut ≡ get_or offsets k 0 → get_or offsets k 0 ≡ marker → ⊥)
      → Underway whole (read_as_marks lo hi marker after.cut (drop (k + 1) offsets)) before after list₀ list'
  marks_on other =
      let go : eqb (last_or from.cut (read_offset lo hi from.cut (get_or offsets k 0))) (get_or offsets k 0) && eqb (get_or offsets k 0) marker ≡ false = test in
      more (read_offset lo hi from.cut (get_or offsets k 0))
      (rest-is _ (ap (read_as_marks lo hi marker from.cut) (offsets_on offsets k h)
      ∙ read_on lo hi from.cut (get_or offsets k 0) marker (drop (k + 1) offsets) go
      ∙ ap (λ (c : ℕ). read_offset lo hi from.cut (get_or offsets k 0) ++ read_as_marks lo hi marker c (drop (k + 1) offsets)) (sym made.last)) u)
      made
    where
      test : eqb (last_or from.cut (read_offset lo hi from.cut (get_or offsets k 0))) (get_or offsets k 0) && eqb (get_or offsets k 0) marker ≡ false
      test =
          by_test (eqb (get_or offsets k 0) marker)
          (λ t. rw (ne_eqb _ _ (λ e. other (made.last ∙ e) (eqb-true _ _ t))))
          (λ t. rw t (and-false (eqb (last_or from.cut (read_offset lo hi from.cut (get_or offsets k 0))) (get_or offsets k 0))))

  pub marks_switch : after.cut ≡ get_or offsets k 0 → get_or offsets k 0 ≡ marker → Underway whole (drop (k + 1) offsets) before after list₀ list'
  marks_switch here is-marker =
      more (read_offset lo hi from.cut (get_or offsets k 0))
      (rest-is _ (ap (read_as_marks lo hi marker from.cut) (offsets_on offsets k h)
      ∙ read_switch lo hi from.cut (get_or offsets k 0) marker (drop (k + 1) offsets) (rw (eq-eqb _ _ (sym made.last ∙ here), eq-eqb _ _ is-marker))) u)
      made

  pub still_rises : rises_within from.cut (2 ^ 40) (drop k offsets) ≡ true → rises_within after.cut (2 ^ 40) (drop (k + 1) offsets) ≡ true
  still_rises t =
      let n = next-rises from.cut (2 ^ 40) offsets k h t in
      rises_wider (drop (k + 1) offsets) (get_or offsets k 0) (2 ^ 40) after.cut (2 ^ 40)
      (omega (arith, made.last, offset_last lo hi from.cut (get_or offsets k 0) positive n.0)) (omega arith)
      (rest_rises from.cut (2 ^ 40) offsets k h t)

pub marks_end : (lo hi marker c : ℕ) (offsets : List ℕ) (k : ℕ) → length offsets ≤ k → read_as_marks lo hi marker c (drop k offsets) ≡ []
unfolding read_as_marks
marks_end lo hi marker c offsets k h = rw (offsets_end offsets k h)
