-- The remainder by x^d + l over GF(2): what it is, and how it goes with sums, shifts and products. Every law holds of any
-- degree d and any low part l below 2^d.
use mathlib.Core.Path.{◌≡◌, refl, sym, ap, ap₂, subst, ◌∙◌}
use mathlib.Core.Logic.{◌↔◌}
use Prim.Native.Nat.{ℕ, zero, suc, ◌+◌, ◌*◌, ◌/◌, ◌%◌, ◌^◌, ◌≤◌, ◌<◌}
use native.Mathlib.Nat.{not-suc-le-zero, zero-mul, one-mul, zero-div, zero-mod, mod-lt, mod-eq_of_lt, div-eq_of_lt, div-le_self, div-lt_iff_lt-mul, div-add-mod'}
use native.Mathlib.Nat.{lt_of_le_of_lt, add-zero, mod_self, div_self, mul-zero, mul-add, add-mul, add_assoc, le_refl, mul_assoc, mul_comm}
use native.Mathlib.Decide.{le_ind}
use native.Mathlib.Omega.{arith}
use lib.Arith.{bin_ind, half_le, digits_lt}
use lib.Dec.{lit<}
use lib.Pow.{pow_pos, split, pow-add, high, low as low_part}
use lib.Bits.{bit_xor, xor_lt, xor_shr, xor_mod, xor_comm, xor_self, xor_zero_r, xor_block, xor_shifted, block_half, block_odd}
use Rattle.std.specs.Int.Bits.{xor_assoc}
use Rattle.signature.specs.Polynomials.{fold_digits, clmul, divide, rem}
use Rattle.signature.proofs.Xor.{by_digit, digit_lt, xor_left_comm, xor_cancel, xor_swap, xor_shl, digit_times}

-- a fold over the digits, opened at the lowest one
module _ (f : ℕ → ℕ → ℕ) where
  spare : (k n : ℕ) → n ≤ k → fold_digits f (suc k) n ≡ fold_digits f k n
  unfolding fold_digits
  spare zero zero h = refl
  spare zero (suc n) h = absurd (not-suc-le-zero h)
  spare (suc k) zero h = refl
  spare (suc k) (suc n) h = ap (λ (r : ℕ). f r (suc n % 2)) (spare k (suc n / 2) (half_le h))

  enough : (k n : ℕ) → n ≤ k → fold_digits f k n ≡ fold_digits f n n
  enough k n h = le_ind (λ m. fold_digits f m n ≡ fold_digits f n n) refl (λ m le e. spare m n le ∙ e) k h

  opened : f 0 0 ≡ 0 → (n : ℕ) → fold_digits f n n ≡ f (fold_digits f (n / 2) (n / 2)) (n % 2)
  unfolding fold_digits
  opened z zero = sym z
  opened z (suc n) = ap (λ (r : ℕ). f r (suc n % 2)) (enough n (suc n / 2) (half_le (le_refl (suc n))))

pub clmul_open : (a b : ℕ) → clmul a b ≡ bit_xor (a % 2 * b) (clmul (a / 2) b * 2)
unfolding clmul
clmul_open a b = opened (λ r c. bit_xor (c * b) (r * 2)) (ap (λ (x : ℕ). bit_xor x 0) (zero-mul b)) a

clmul_zero : (a : ℕ) → clmul a 0 ≡ 0
unfolding clmul
clmul_zero =
    bin_ind (λ a. clmul a 0 ≡ 0) refl λ a ih.
    clmul_open a 0 ∙ ap₂ (λ (x y : ℕ). bit_xor x (y * 2)) (mul-zero (a % 2)) ih

-- times a power of x is a shift
pub clmul_power : (k a : ℕ) → clmul a (2 ^ k) ≡ a * 2 ^ k
unfolding clmul
clmul_power k =
    bin_ind (λ a. clmul a (2 ^ k) ≡ a * 2 ^ k) (sym (zero-mul (2 ^ k))) λ a ih.
    clmul_open a (2 ^ k)
    ∙ ap (λ (x : ℕ). bit_xor (a % 2 * 2 ^ k) (x * 2)) ih
    ∙ ap (bit_xor (a % 2 * 2 ^ k)) (mul_assoc (a / 2) (2 ^ k) 2 ∙ ap (λ (x : ℕ). a / 2 * x) (mul_comm (2 ^ k) 2) ∙ sym (mul_assoc (a / 2) 2 (2 ^ k)))
    ∙ xor_shl k (a % 2) (a / 2 * 2)
    ∙ ap (λ (x : ℕ). x * 2 ^ k) (xor_comm (a % 2) (a / 2 * 2) ∙ xor_shifted (a / 2) 1 (a % 2) (digit_lt a) ∙ div-add-mod' a 2)

-- one digit more at the low end of a factor
clmul_digit : (q h m : ℕ) → h < 2 → clmul (q * 2 + h) m ≡ bit_xor (h * m) (clmul q m * 2)
clmul_digit q h m hh =
    clmul_open (q * 2 + h) m ∙ ap₂ (λ (x y : ℕ). bit_xor (x * m) (clmul y m * 2)) (low_part q 1 hh) (high q 1 hh)

pub rem_open : (d l n : ℕ) → rem d l n ≡ divide d l (rem d l (n / 2)) (n % 2)
unfolding rem
rem_open d l = opened (divide d l) (ap₂ bit_xor (ap (λ (x : ℕ). x * l) (zero-div (2 ^ d)) ∙ zero-mul l) (zero-mod (2 ^ d)))

divide_halves : (d l n : ℕ) → divide d l (n / 2) (n % 2) ≡ bit_xor (n / 2 ^ d * l) (n % 2 ^ d)
unfolding divide
divide_halves d l n = ap (λ (x : ℕ). bit_xor (x / 2 ^ d * l) (x % 2 ^ d)) (div-add-mod' n 2)

-- the quotient's part leaves the sum of a multiple and its remainder
gather : (p q a m : ℕ) → bit_xor a (bit_xor p m) ≡ bit_xor (bit_xor (bit_xor p q) a) (bit_xor q m)
gather p q a m = simp (xor_assoc, xor_left_comm, xor_cancel)

module _ (d l : ℕ) (low : l < 2 ^ d) where
  top_lt : (r c : ℕ) → r < 2 ^ d → c < 2 → (r * 2 + c) / 2 ^ d < 2
  top_lt r c hr hc = (div-lt_iff_lt-mul (pow_pos d)).1 (omega arith)

  digit_low : (x : ℕ) → x < 2 → x * l < 2 ^ d
  digit_low = by_digit (λ x. x * l < 2 ^ d) (omega (arith, pow_pos d)) (omega arith)

  pub rem_lt : (n : ℕ) → rem d l n < 2 ^ d
  unfolding rem divide
  rem_lt =
      bin_ind (λ n. rem d l n < 2 ^ d) (pow_pos d) λ n ih.
      subst (λ (x : ℕ). x < 2 ^ d) (sym (rem_open d l n))
      (xor_lt d _ _ (digit_low _ (top_lt _ _ ih (digit_lt n))) (mod-lt _ (pow_pos d)))

  -- a number below x^d is its own remainder
  pub rem_small : (n : ℕ) → n < 2 ^ d → rem d l n ≡ n
  unfolding rem
  rem_small =
      bin_ind (λ n. n < 2 ^ d → rem d l n ≡ n) (λ h. refl) λ n ih h.
      rem_open d l n
      ∙ ap (λ (r : ℕ). divide d l r (n % 2)) (ih (lt_of_le_of_lt (div-le_self n 2) h))
      ∙ divide_halves d l n
      ∙ ap₂ bit_xor (ap (λ (x : ℕ). x * l) (div-eq_of_lt h) ∙ zero-mul l) (mod-eq_of_lt h)

  divide_xor : (r c s e : ℕ) → r < 2 ^ d → c < 2 → s < 2 ^ d → e < 2
      → divide d l (bit_xor r s) (bit_xor c e) ≡ bit_xor (divide d l r c) (divide d l s e)
  unfolding divide
  divide_xor r c s e hr hc hs he =
      let t = r * 2 + c in
      let u = s * 2 + e in
      ap (λ (x : ℕ). bit_xor (x / 2 ^ d * l) (x % 2 ^ d)) (sym (xor_block 1 r s c e hc he))
      ∙ ap₂ (λ (x y : ℕ). bit_xor (x * l) y) (xor_shr t u d) (xor_mod t u d)
      ∙ ap (λ (x : ℕ). bit_xor x (bit_xor (t % 2 ^ d) (u % 2 ^ d))) (digit_times l (t / 2 ^ d) (u / 2 ^ d) (top_lt r c hr hc) (top_lt s e hs he))
      ∙ xor_swap (t / 2 ^ d * l) (u / 2 ^ d * l) (t % 2 ^ d) (u % 2 ^ d)

  pub rem-xor : (a b : ℕ) → rem d l (bit_xor a b) ≡ bit_xor (rem d l a) (rem d l b)
  unfolding rem
  rem-xor =
      bin_ind (λ a. (b : ℕ) → rem d l (bit_xor a b) ≡ bit_xor (rem d l a) (rem d l b)) (λ b. refl) λ a ih b.
      rem_open d l (bit_xor a b)
      ∙ ap₂ (divide d l) (ap (rem d l) (xor_shr a b 1) ∙ ih (b / 2)) (xor_mod a b 1)
      ∙ divide_xor (rem d l (a / 2)) (a % 2) (rem d l (b / 2)) (b % 2) (rem_lt (a / 2)) (digit_lt a) (rem_lt (b / 2)) (digit_lt b)
      ∙ ap₂ bit_xor (sym (rem_open d l a)) (sym (rem_open d l b))

  -- what is shifted may be reduced first
  pub rem_shift : (k n r : ℕ) → r < 2 ^ k → rem d l (n * 2 ^ k + r) ≡ rem d l (rem d l n * 2 ^ k + r)
  rem_shift zero n r h =
      let alone : (m : ℕ) → m * 1 + r ≡ m = λ m. omega arith in
      ap (rem d l) (alone n) ∙ sym (rem_small (rem d l n) (rem_lt n)) ∙ ap (rem d l) (sym (alone (rem d l n)))
  rem_shift (suc k) n r h =
      rem_open d l (n * 2 ^ suc k + r)
      ∙ ap₂ (divide d l) (ap (rem d l) (block_half n k r) ∙ rem_shift k n (r / 2) (omega arith)) (block_odd n k r)
      ∙ ap₂ (divide d l) (ap (rem d l) (sym (block_half (rem d l n) k r))) (sym (block_odd (rem d l n) k r))
      ∙ sym (rem_open d l (rem d l n * 2 ^ suc k + r))

  rem_digit : (n x : ℕ) → x < 2 → rem d l (x * n) ≡ x * rem d l n
  unfolding rem
  rem_digit n =
      by_digit (λ x. rem d l (x * n) ≡ x * rem d l n)
      (ap (rem d l) (zero-mul n) ∙ sym (zero-mul (rem d l n)))
      (ap (rem d l) (one-mul n) ∙ sym (one-mul (rem d l n)))

  rem_double : (n : ℕ) → rem d l (n * 2) ≡ rem d l (rem d l n * 2)
  rem_double n = ap (rem d l) (sym (add-zero (n * 2))) ∙ rem_shift 1 n 0 (lit< tt) ∙ ap (rem d l) (add-zero (rem d l n * 2))

  rem-clmul_open : (a n : ℕ) → rem d l (clmul a n) ≡ bit_xor (a % 2 * rem d l n) (rem d l (rem d l (clmul (a / 2) n) * 2))
  rem-clmul_open a n =
      ap (rem d l) (clmul_open a n)
      ∙ rem-xor (a % 2 * n) (clmul (a / 2) n * 2)
      ∙ ap₂ bit_xor (rem_digit n (a % 2) (digit_lt a)) (rem_double (clmul (a / 2) n))

  -- a factor may be reduced first
  pub rem-clmul : (n a : ℕ) → rem d l (clmul a n) ≡ rem d l (clmul a (rem d l n))
  unfolding clmul
  rem-clmul n =
      bin_ind (λ a. rem d l (clmul a n) ≡ rem d l (clmul a (rem d l n))) refl λ a ih.
      rem-clmul_open a n
      ∙ ap₂ (λ (x y : ℕ). bit_xor (a % 2 * x) (rem d l (y * 2))) (sym (rem_small (rem d l n) (rem_lt n))) ih
      ∙ sym (rem-clmul_open a (rem d l n))

  -- a times x^k, by x^k reduced: the rule of a table of small products
  pub rem_times_power : (k a : ℕ) → rem d l (clmul a (rem d l (2 ^ k))) ≡ rem d l (a * 2 ^ k)
  rem_times_power k a = sym (rem-clmul (2 ^ k) a) ∙ ap (rem d l) (clmul_power k a)

  -- x^d is l, which is what reducing means
  pub rem_power : rem d l (2 ^ d) ≡ l
  rem_power =
      rem_open d l (2 ^ d)
      ∙ ap (λ (r : ℕ). divide d l r (2 ^ d % 2)) (rem_small (2 ^ d / 2) (omega (arith, pow_pos d)))
      ∙ divide_halves d l (2 ^ d)
      ∙ ap₂ bit_xor (ap (λ (x : ℕ). x * l) (div_self (pow_pos d)) ∙ one-mul l) (mod_self (2 ^ d))
      ∙ xor_zero_r l

  rem_modulus : rem d l (2 ^ d + l) ≡ 0
  rem_modulus =
      ap (rem d l) (sym (xor_shifted 1 d l low ∙ ap (λ (x : ℕ). x + l) (one-mul (2 ^ d))))
      ∙ rem-xor (1 * 2 ^ d) l
      ∙ ap₂ bit_xor (ap (rem d l) (one-mul (2 ^ d)) ∙ rem_power) (rem_small l low)
      ∙ xor_self l

  rem_multiple : (q : ℕ) → rem d l (clmul q (2 ^ d + l)) ≡ 0
  unfolding rem
  rem_multiple q = rem-clmul (2 ^ d + l) q ∙ ap (λ (x : ℕ). rem d l (clmul q x)) rem_modulus ∙ ap (rem d l) (clmul_zero q)

  Quotient : ℕ → ℕ → Type 0
  Quotient n r = (q : ℕ) × (n ≡ bit_xor (clmul q (2 ^ d + l)) r)

  quotient_more : (n q : ℕ) → n / 2 ≡ bit_xor (clmul q (2 ^ d + l)) (rem d l (n / 2)) → Quotient n (rem d l n)
  unfolding divide Quotient
  quotient_more n q e =
      let m = 2 ^ d + l in
      let a = clmul q m in
      let r = rem d l (n / 2) in
      let c = n % 2 in
      let t = r * 2 + c in
      let h = t / 2 ^ d in (
        q * 2 + h,
        sym (div-add-mod' n 2)
            ∙ ap (λ (x : ℕ). x * 2 + c) e
            ∙ sym (ap (λ (x : ℕ). bit_xor x t) (sym (add-zero (a * 2))) ∙ xor_block 1 a r 0 c (lit< tt) (digit_lt n))
            ∙ ap (bit_xor (a * 2)) (sym (xor_shifted h d (t % 2 ^ d) (mod-lt t (pow_pos d)) ∙ split t d))
            ∙ gather (h * 2 ^ d) (h * l) (a * 2) (t % 2 ^ d)
            ∙ sym (ap₂ bit_xor
            (clmul_digit q h m (top_lt r c (rem_lt (n / 2)) (digit_lt n))
            ∙ ap (λ (x : ℕ). bit_xor x (a * 2))
            (mul-add h (2 ^ d) l ∙ sym (xor_shifted h d (h * l) (digit_low h (top_lt r c (rem_lt (n / 2)) (digit_lt n))))))
            (rem_open d l n)),
      )

  quotient : (n : ℕ) → Quotient n (rem d l n)
  unfolding rem clmul Quotient
  quotient = bin_ind (λ n. Quotient n (rem d l n)) (0, refl) λ n ih. quotient_more n ih.0 ih.1

  -- r is the remainder of n by x^d + l exactly when it is below x^d and n is a multiple of x^d + l, plus r
  pub rem_exactly : (n r : ℕ) → (r ≡ rem d l n) ↔ ((r < 2 ^ d) × ((q : ℕ) × (n ≡ bit_xor (clmul q (2 ^ d + l)) r)))
  unfolding Quotient
  rem_exactly n r = (
    λ e. (subst (λ (x : ℕ). x < 2 ^ d) (sym e) (rem_lt n), subst (λ (x : ℕ). Quotient n x) (sym e) (quotient n)),
    λ w. sym
        (ap (rem d l) w.1.1
        ∙ rem-xor (clmul w.1.0 (2 ^ d + l)) r
        ∙ ap₂ bit_xor (rem_multiple w.1.0) (rem_small r w.0)),
  )

-- the digits of s above the e low ones stay above those that are moved up by k
top_and_bottom : (e k s r : ℕ) → s * 2 ^ k + r ≡ s / 2 ^ e * 2 ^ (e + k) + (s % 2 ^ e * 2 ^ k + r)
top_and_bottom e k s r =
    ap (λ (x : ℕ). x * 2 ^ k + r) (sym (split s e))
    ∙ ap (λ (x : ℕ). x + r) (add-mul (s / 2 ^ e * 2 ^ e) (s % 2 ^ e) (2 ^ k))
    ∙ add_assoc (s / 2 ^ e * 2 ^ e * 2 ^ k) (s % 2 ^ e * 2 ^ k) r
    ∙ ap (λ (x : ℕ). x + (s % 2 ^ e * 2 ^ k + r)) (mul_assoc (s / 2 ^ e) (2 ^ e) (2 ^ k) ∙ ap (λ (x : ℕ). s / 2 ^ e * x) (sym (pow-add 2 e k)))

-- k digits more on a number s, reduced by its top digits alone: those above e, for a degree of e + k
pub rem_by_top : (e k l : ℕ) → l < 2 ^ (e + k) → (s r : ℕ) → r < 2 ^ k
    → rem (e + k) l (s * 2 ^ k + r) ≡ bit_xor (rem (e + k) l (s / 2 ^ e * 2 ^ (e + k))) (s % 2 ^ e * 2 ^ k + r)
rem_by_top e k l low s r h =
    let d = e + k in
    let bottom = s % 2 ^ e * 2 ^ k + r in
    let small : bottom < 2 ^ d = subst (λ (x : ℕ). bottom < x) (sym (pow-add 2 e k)) (digits_lt (mod-lt s (pow_pos e)) h) in
    ap (rem d l) (top_and_bottom e k s r ∙ sym (xor_shifted (s / 2 ^ e) d bottom small))
    ∙ rem-xor d l low (s / 2 ^ e * 2 ^ d) bottom
    ∙ ap (bit_xor (rem d l (s / 2 ^ e * 2 ^ d))) (rem_small d l low bottom small)
