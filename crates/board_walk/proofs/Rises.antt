-- Offsets that rise, taken one by one.
use Prim.Native.Nat.{ℕ, suc, ◌+◌, ◌≤◌, ◌<◌}
use mathlib.Core.Path.{◌≡◌, refl}
use mathlib.Core.Bool.{true}
use mathlib.Core.List.{List, [], ◌∷◌}
use native.Mathlib.Numerals.{add-one}
use native.Mathlib.Omega.{arith}
use lib.ListN.{length, get_or, drop, drop_of_length-le}
use lib.Seq.{drop-cons}
use borrow.Author.Tests.{leb-true, ltb-true, le-leb, lt-ltb}
use Rattle.laws.proofs.Cases.{both_true}
use Rattle.board_bays.specs.Bays.{rises_within}

pub risen : (a e p : ℕ) (l : List ℕ) → rises_within a e (p ∷ l) ≡ true → (a < p) × (p ≤ e) × (rises_within p e l ≡ true)
unfolding rises_within
risen a e p l t = let x = both_true t in let y = both_true x.1 in (ltb-true _ _ x.0, leb-true _ _ y.0, y.1)

-- offsets that rise from a do so from below it, and within more
pub rises_wider : (l : List ℕ) (a e a' e' : ℕ) → a' ≤ a → e ≤ e' → rises_within a e l ≡ true → rises_within a' e' l ≡ true
unfolding rises_within
rises_wider [] a e a' e' low high t = refl
rises_wider (p ∷ l) a e a' e' low high t =
    let r = risen a e p l t in
    rw (lt-ltb a' p (omega arith), le-leb p e' (omega arith)) (rises_wider l p e p e' (omega arith) high r.2)

module _ (a e : ℕ) (offsets : List ℕ) (k : ℕ) (h : k < length offsets) (t : rises_within a e (drop k offsets) ≡ true) where
  taken : (a < get_or offsets k 0) × (get_or offsets k 0 ≤ e) × (rises_within (get_or offsets k 0) e (drop (suc k) offsets) ≡ true)
  taken = risen a e (get_or offsets k 0) (drop (suc k) offsets) (rw (drop-cons offsets k 0 h) at t)

  pub next-rises : (a < get_or offsets k 0) × (get_or offsets k 0 ≤ e)
  next-rises = (taken.0, taken.1)

  pub rest_rises : rises_within (get_or offsets k 0) e (drop (k + 1) offsets) ≡ true
  rest_rises = rw add-one taken.2

pub offsets_on : (offsets : List ℕ) (k : ℕ) → k < length offsets → drop k offsets ≡ get_or offsets k 0 ∷ drop (k + 1) offsets
offsets_on offsets k h = rw add-one (drop-cons offsets k 0 h)

pub offsets_end : (offsets : List ℕ) (k : ℕ) → length offsets ≤ k → drop k offsets ≡ []
offsets_end offsets k h = drop_of_length-le offsets h
