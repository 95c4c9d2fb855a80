-- The signature of a run of bytes, and how it rolls: document 01, "Signature and marks".
use Rattle.std.specs.Prelude.{ℕ, ◌*◌, ◌^◌, List, take, drop}
use Rattle.std.specs.Int.Bits.{bit_xor}
unfoldable pub use Rattle.laws.specs.Bytes.{number}
use Rattle.laws.specs.Tables.{tabulate}
use Rattle.signature.specs.Polynomials.{rem}

-- the bytes as one polynomial, the first byte highest, each byte's top bit highest, and its remainder by x^d + l
unfoldable pub signature : (d l : ℕ) (bytes : List ℕ) → ℕ
signature d l bytes = rem d l (number bytes)

-- one byte e more: the signature s multiplied by x^8 and reduced, and the new byte added without carry
unfoldable pub grown : (d l s e : ℕ) → ℕ
grown d l s e = bit_xor (rem d l (s * 2 ^ 8)) e

-- rolled on by one byte over m bytes: e enters, and the leaving byte b times x^(8m), reduced, is taken away
unfoldable pub rolled : (d l m s b e : ℕ) → ℕ
rolled d l m s b e = bit_xor (grown d l s e) (rem d l (b * 2 ^ (8 * m)))

-- the polynomial is x^31 + x^3 + 1
abbrev pub degree : ℕ
degree = 31

abbrev pub low_part : ℕ
low_part = 9

-- a window is this many bytes
abbrev pub span : ℕ
span = 48

unfoldable pub signature_of : List ℕ → ℕ
signature_of bytes = signature degree low_part bytes

-- the window of a log from offset q on
abbrev pub window : (log : List ℕ) (q : ℕ) → List ℕ
window log q = take span (drop q log)

-- for each byte, that byte times x^384 reduced: what leaves
unfoldable pub leaving_table : List ℕ
leaving_table = tabulate (λ b. rem degree low_part (b * 2 ^ (8 * span))) 0 256

-- for each byte, that byte times x^31 reduced: what the shift pushes out
unfoldable pub pushed_table : List ℕ
pushed_table = tabulate (λ b. rem degree low_part (b * 2 ^ degree)) 0 256
