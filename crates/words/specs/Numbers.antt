-- Big-endian numbers in bytes, each way: document 01, "The cut sheet".
use Rattle.std.specs.Prelude.{ℕ, zero, suc, ◌*◌, ◌/◌, ◌%◌, ◌^◌, List, [], ◌∷◌, ◌++◌, length, take, drop}
unfoldable pub use Rattle.laws.specs.Bytes.{number}

-- a number's low bytes, as many as the width, highest first
unfoldable pub big_endian : (width : ℕ) → ℕ → List ℕ
big_endian zero n = []
big_endian (suc width) n = n / 2 ^ (8 * width) % 256 ∷ big_endian width n

-- a list of numbers of one width, one after the other
unfoldable pub written : (width : ℕ) → List ℕ → List ℕ
written width [] = []
written width (n ∷ rest) = big_endian width n ++ written width rest

-- the first numbers of one width, as many as count
unfoldable pub numbers : (width count : ℕ) → List ℕ → List ℕ
numbers width zero bytes = []
numbers width (suc count) bytes = number (take width bytes) ∷ numbers width count (drop width bytes)

-- all whole numbers of a width, from the first byte on
unfoldable pub numbers_of : (width : ℕ) → List ℕ → List ℕ
numbers_of width bytes = numbers width (length bytes / width) bytes

-- the number of a width that stands at a place
unfoldable pub number_at : (place width : ℕ) → List ℕ → ℕ
number_at place width bytes = number (take width (drop place bytes))
