-- Polynomials over GF(2) as numbers: the binary digits are the coefficients, and the sum is the exclusive or.
use Rattle.std.specs.Prelude.{ℕ, zero, suc, ◌+◌, ◌*◌, ◌/◌, ◌%◌, ◌^◌}
use Rattle.std.specs.Int.Bits.{bit_xor}

-- f taken over the binary digits of n, the highest first, starting from 0; k bounds their number
unfoldable pub fold_digits : (f : ℕ → ℕ → ℕ) (k n : ℕ) → ℕ
fold_digits f zero n = 0
fold_digits f (suc k) zero = 0
fold_digits f (suc k) (suc n) = f (fold_digits f k (suc n / 2)) (suc n % 2)

-- the product without carries
unfoldable pub clmul : (a b : ℕ) → ℕ
unfolding fold_digits
clmul a b = fold_digits (λ r c. bit_xor (c * b) (r * 2)) a a

-- long division by x^d + l, one digit further: r is the remainder so far, c the next digit
unfoldable pub divide : (d l r c : ℕ) → ℕ
divide d l r c = bit_xor ((r * 2 + c) / 2 ^ d * l) ((r * 2 + c) % 2 ^ d)

-- the remainder of n by x^d + l
unfoldable pub rem : (d l n : ℕ) → ℕ
unfolding fold_digits divide
rem d l n = fold_digits (divide d l) n n
