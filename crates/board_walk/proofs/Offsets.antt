-- One offset of a bay, read as a mark: what is made of it, and what then becomes of the offsets after it.
use Prim.Native.Nat.{ℕ, ◌+◌, ◌-◌, ◌≤◌, ◌<◌}
use mathlib.Core.Path.{◌≡◌}
use mathlib.Core.Bool.{true, false, ◌&&◌}
use mathlib.Core.List.{List, [], ◌∷◌, ◌++◌, append-nil}
use native.Mathlib.Omega.{arith}
use lib.Dec.{eqb}
use borrow.Author.Tests.{le-leb, lt-leb}
use Rattle.terms.specs.declared.Checked.{Checked}
use Rattle.terms.proofs.Ranges.{ranges}
use Rattle.rule.specs.Rule.{last_or}
use Rattle.rule.proofs.Hops.{UpTo, past, leap, up_to, listed, stands}
use Rattle.board_walk.specs.Walk.{forced_up_to, read_offset, read_as_marks}

-- settings that are in range force cuts further on
pub forces : (rule : Checked) → 1 ≤ rule.settings.maximum
forces rule = let r = ranges rule.settings rule.ranged in omega (arith, r.ordered, r.positive)

module _ (hi : ℕ) (positive : 0 < hi) where
  pub forced_rises : (c : ℕ) → c < c + hi
  forced_rises c = omega arith

  pub forced_up_to_lem : (e c : ℕ) → UpTo (λ (x : ℕ). x + hi) e c (forced_up_to hi e c) (last_or c (forced_up_to hi e c))
  unfolding forced_up_to
  forced_up_to_lem e c = up_to (λ (x : ℕ). x + hi) e forced_rises c

  pub forced_none : (c e : ℕ) → e < c + hi → forced_up_to hi e c ≡ []
  unfolding forced_up_to
  forced_none c e h = listed (λ (x : ℕ). x + hi) e forced_rises (past h)

  pub forced_more : (c e : ℕ) → c + hi ≤ e → forced_up_to hi e c ≡ (c + hi) ∷ forced_up_to hi e (c + hi)
  unfolding forced_up_to
  forced_more c e h = listed (λ (x : ℕ). x + hi) e forced_rises (leap h (up_to (λ (x : ℕ). x + hi) e forced_rises (c + hi)))

  -- the last forced cut is at or past the start, not past the end, and the next would be
  pub forced_last : (c e : ℕ) → c ≤ e
      → (c ≤ last_or c (forced_up_to hi e c)) × (last_or c (forced_up_to hi e c) ≤ e) × (e < last_or c (forced_up_to hi e c) + hi)
  forced_last c e h = let s = stands (λ (x : ℕ). x + hi) e forced_rises (forced_up_to_lem e c) in (s.from_start, s.reached h, s.ahead)

module _ (lo hi c p : ℕ) where
  pub offset_far : last_or c (forced_up_to hi (p - 1) c) + lo ≤ p → read_offset lo hi c p ≡ forced_up_to hi (p - 1) c ++ (p ∷ [])
  unfolding read_offset
  offset_far h = rw (le-leb _ _ h, read_offset)

  pub offset_near : p < last_or c (forced_up_to hi (p - 1) c) + lo → read_offset lo hi c p ≡ forced_up_to hi (p - 1) c
  unfolding read_offset
  offset_near h = rw (lt-leb _ _ h, read_offset) (append-nil (forced_up_to hi (p - 1) c))

  module _ (marker : ℕ) (offsets : List ℕ) where
    pub read_on : eqb (last_or c (read_offset lo hi c p)) p && eqb p marker ≡ false
        → read_as_marks lo hi marker c (p ∷ offsets) ≡ read_offset lo hi c p ++ read_as_marks lo hi marker (last_or c (read_offset lo hi c p)) offsets
    unfolding read_as_marks
    read_on t = rw (t, read_as_marks)

    pub read_switch : eqb (last_or c (read_offset lo hi c p)) p && eqb p marker ≡ true
        → read_as_marks lo hi marker c (p ∷ offsets) ≡ read_offset lo hi c p ++ offsets
    unfolding read_as_marks
    read_switch t = rw (t, read_as_marks)
