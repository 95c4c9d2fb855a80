-- No cut made in a bay passes its last offset.
use Prim.Native.Nat.{ℕ, zero, suc, ◌≤◌}
use mathlib.Core.Path.{◌≡◌, sym, subst}
use mathlib.Core.Bool.{true, ◌&&◌}
use mathlib.Core.List.{List, [], ◌∷◌}
use native.Mathlib.Omega.{arith}
use lib.Dec.{eqb}
use Rattle.laws.proofs.Cases.{by_test}
use Rattle.rule.specs.Rule.{last_or}
use Rattle.board_bays.specs.Bays.{Record, rises_within}
use Rattle.board_walk.specs.Walk.{read_offset, read_as_marks, bay_cuts}
use Rattle.laws.proofs.Last.{last_joined}
use Rattle.board_walk.proofs.Offsets.{read_on, read_switch}
use Rattle.board_walk.proofs.Rises.{risen, rises_wider}
use Rattle.board_walk.proofs.Walks.{offset_last}

rises_last : (l : List ℕ) (a e : ℕ) → a ≤ e → rises_within a e l ≡ true → last_or a l ≤ e
unfolding last_or
rises_last [] a e h t = h
rises_last (p ∷ l) a e h t = let r = risen a e p l t in rises_last l p e r.1 r.2

marks_last : (lo hi marker : ℕ) → 1 ≤ hi → (l : List ℕ) (c e : ℕ) → c ≤ e → rises_within c e l ≡ true → last_or c (read_as_marks lo hi marker c l) ≤ e
unfolding last_or read_as_marks
marks_last lo hi marker positive [] c e h t = h
marks_last lo hi marker positive (p ∷ l) c e h t =
    let r = risen c e p l t in
    let cut : ℕ = last_or c (read_offset lo hi c p) in
    let low : cut ≤ p = offset_last lo hi c p positive r.0 in
    let on : rises_within cut e l ≡ true = rises_wider l p e cut e low (omega arith) r.2 in
    by_test (eqb cut p && eqb p marker)
    (λ s. subst (λ x. last_or c x ≤ e) (sym (read_switch lo hi c p marker l s)) (rw last_joined (rises_last l cut e (omega arith) on)))
    (λ s. subst (λ x. last_or c x ≤ e) (sym (read_on lo hi c p marker l s)) (rw last_joined (marks_last lo hi marker positive l cut e (omega arith) on)))

pub bay_last : (lo hi i : ℕ) → 1 ≤ hi → (r : Record) (c e : ℕ) → c ≤ e → rises_within c e r.offsets ≡ true → last_or c (bay_cuts lo hi i c r) ≤ e
unfolding bay_cuts
bay_last lo hi zero positive r c e h t = rises_last r.offsets c e h t
bay_last lo hi (suc i) positive r c e h t = marks_last lo hi r.marker positive r.offsets c e h t
