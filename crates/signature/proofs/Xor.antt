-- The sum without carries: laws of the exclusive or that the remainder's laws rest on.
use mathlib.Core.Path.{◌≡◌, sym, ap, ap₂, ◌∙◌}
use Prim.Native.Nat.{ℕ, zero, suc, ◌*◌, ◌%◌, ◌^◌, ◌<◌}
use native.Mathlib.Nat.{add-zero, mod-lt, le_of_suc-le-suc, not-suc-le-zero, zero-mul}
use lib.Dec.{lit<}
use lib.Pow.{pow_pos}
use lib.Bits.{bit_xor, xor_comm, xor_self, xor_zero_r, xor_block}
use Rattle.std.specs.Int.Bits.{xor_assoc}

-- a digit is 0 or 1
pub by_digit {ℓ} : (P : ℕ → Type ℓ) → P 0 → P 1 → (x : ℕ) → x < 2 → P x
by_digit P at-0 at_1 zero h = at-0
by_digit P at-0 at_1 (suc zero) h = at_1
by_digit P at-0 at_1 (suc (suc x)) h = absurd (not-suc-le-zero (le_of_suc-le-suc (le_of_suc-le-suc h)))

pub digit_lt : (n : ℕ) → n % 2 < 2
digit_lt n = mod-lt n (lit< tt)

pub xor_left_comm : (a b c : ℕ) → bit_xor a (bit_xor b c) ≡ bit_xor b (bit_xor a c)
xor_left_comm a b c = sym (xor_assoc a b c) ∙ ap (λ (x : ℕ). bit_xor x c) (xor_comm a b) ∙ xor_assoc b a c

-- what is added twice is gone
pub xor_cancel : (a b : ℕ) → bit_xor a (bit_xor a b) ≡ b
xor_cancel a b = sym (xor_assoc a a b) ∙ ap (λ (x : ℕ). bit_xor x b) (xor_self a)

pub xor_swap : (a b c e : ℕ) → bit_xor (bit_xor a b) (bit_xor c e) ≡ bit_xor (bit_xor a c) (bit_xor b e)
xor_swap a b c e = xor_assoc a b (bit_xor c e) ∙ ap (bit_xor a) (xor_left_comm b c e) ∙ sym (xor_assoc a c (bit_xor b e))

pub xor_shl : (k a b : ℕ) → bit_xor (a * 2 ^ k) (b * 2 ^ k) ≡ bit_xor a b * 2 ^ k
xor_shl k a b =
    ap₂ bit_xor (sym (add-zero (a * 2 ^ k))) (sym (add-zero (b * 2 ^ k)))
    ∙ xor_block k a b 0 0 (pow_pos k) (pow_pos k)
    ∙ add-zero (bit_xor a b * 2 ^ k)

-- a digit times a number, without carries or with
pub digit_times : (l x y : ℕ) → x < 2 → y < 2 → bit_xor x y * l ≡ bit_xor (x * l) (y * l)
digit_times l x y hx hy =
    by_digit (λ x. bit_xor x y * l ≡ bit_xor (x * l) (y * l)) (ap (λ (z : ℕ). bit_xor z (y * l)) (sym (zero-mul l)))
    (by_digit (λ y. bit_xor 1 y * l ≡ bit_xor (1 * l) (y * l))
    (sym (ap (bit_xor (1 * l)) (zero-mul l) ∙ xor_zero_r (1 * l)))
    (zero-mul l ∙ sym (xor_self (1 * l))) y hy) x hx
