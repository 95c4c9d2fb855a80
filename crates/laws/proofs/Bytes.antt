-- Bytes read as one number: its range, one byte more, and parts of a list of bytes.
use mathlib.Core.Path.{◌≡◌, sym, ap, ap₂, subst, ◌∙◌}
use mathlib.Core.List.{List, [], ◌∷◌, ◌++◌}
use Prim.Native.Nat.{ℕ, zero, suc, ◌+◌, ◌*◌, ◌^◌, ◌<◌}
use native.Mathlib.Nat.{mul-suc, mul_comm}
use native.Mathlib.Numerals.{add-one}
use native.Mathlib.Omega.{arith}
use lib.Arith.{digits_lt}
use lib.Dec.{lit<}
use lib.Pow.{pow-add}
use lib.ListN.{length, take, drop, length-append}
use lib.Seq.{get_or-drop}
use Rattle.laws.specs.Bytes.{Bytes, number}

-- a byte more is 256 times as many
pub byte_power : (n : ℕ) → 2 ^ (8 * suc n) ≡ 2 ^ (8 * n) * 2 ^ 8
byte_power n = ap (λ (k : ℕ). 2 ^ k) (mul-suc 8 n) ∙ pow-add 2 (8 * n) 8

pub number_lt : (bytes : List ℕ) → Bytes bytes → number bytes < 2 ^ (8 * length bytes)
unfolding number
number_lt [] h = lit< tt
number_lt (b ∷ bytes) h =
    subst (λ (x : ℕ). b * 2 ^ (8 * length bytes) + number bytes < x) (sym (byte_power (length bytes) ∙ mul_comm (2 ^ (8 * length bytes)) (2 ^ 8)))
    (digits_lt (h 0) (number_lt bytes (λ j. h (suc j))))

snoc_power : (bytes : List ℕ) (e : ℕ) → 2 ^ (8 * length (bytes ++ e ∷ [])) ≡ 2 ^ (8 * length bytes) * 2 ^ 8
snoc_power bytes e = ap (λ (n : ℕ). 2 ^ (8 * n)) (length-append bytes (e ∷ []) ∙ add-one (length bytes)) ∙ byte_power (length bytes)

pub number_snoc : (bytes : List ℕ) (e : ℕ) → number (bytes ++ e ∷ []) ≡ number bytes * 2 ^ 8 + e
unfolding number
number_snoc [] e = omega arith
number_snoc (b ∷ bytes) e = ap₂ (λ (x y : ℕ). b * x + y) (snoc_power bytes e) (number_snoc bytes e) ∙ omega arith

pub bytes_drop : (n : ℕ) (bytes : List ℕ) → Bytes bytes → Bytes (drop n bytes)
bytes_drop n bytes h j = rw get_or-drop (h (n + j))

pub bytes_take : (n : ℕ) (bytes : List ℕ) → Bytes bytes → Bytes (take n bytes)
bytes_take zero bytes h j = lit< tt
bytes_take (suc n) [] h j = lit< tt
bytes_take (suc n) (b ∷ bytes) h zero = h 0
bytes_take (suc n) (b ∷ bytes) h (suc j) = bytes_take n bytes (λ i. h (suc i)) j
