-- Case splits as terms: of two numbers, and of a test with its outcome in hand.
use mathlib.Core.Path.{◌≡◌, refl, sym}
use mathlib.Core.Bool.{Bool, true, false, ◌&&◌, ◌||◌}
use Prim.Native.Nat.{ℕ, ◌≤◌, ◌<◌}
use lib.Dec.{ltb}
use native.Mathlib.Omega.{arith}
use borrow.Author.Tests.{ltb-true, ltb-false}

pub by_test {ℓ} : {C : Type ℓ} (t : Bool) → (t ≡ true → C) → (t ≡ false → C) → C
by_test true f g = f refl
by_test false f g = g refl

pub by_lt {ℓ} : {C : Type ℓ} (a b : ℕ) → (a < b → C) → (b ≤ a → C) → C
by_lt a b f g = by_test (ltb a b) (λ e. f (ltb-true a b e)) (λ e. g (ltb-false a b e))

-- what follows from two different constructors that are one: `cc` finds that 0 is 1
pub impossible {ℓ} : {C : Type ℓ} → ◌≡◌ {A = ℕ} 0 1 → C
impossible e = absurd (omega arith)

-- no test both passes and fails
pub clash : true ≡ false → ⊥
clash e = impossible (cc)

-- both halves of a test that passed
pub both_true : {a b : Bool} → a && b ≡ true → (a ≡ true) × (b ≡ true)
both_true {a} {b} e = by_test a (λ h. (h, rw h at e)) (λ h. absurd (clash (sym (rw h at e))))

-- a test whose second half is known
pub and-false : (t : Bool) → t && false ≡ false
and-false true = refl
and-false false = refl

pub or-true : (t : Bool) → t || true ≡ true
or-true true = refl
or-true false = refl
