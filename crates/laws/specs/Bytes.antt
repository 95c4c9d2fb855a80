-- Bytes read as numbers.
use Rattle.std.specs.Prelude.{ℕ, ◌+◌, ◌*◌, ◌^◌, ◌<◌, List, [], ◌∷◌, length, get_or}

-- each entry of a list is a byte
abbrev pub Bytes : List ℕ → Type 0
Bytes bytes = (i : ℕ) → get_or bytes i 0 < 2 ^ 8

-- bytes read as one number, the first byte highest, each byte's top bit highest
unfoldable pub number : List ℕ → ℕ
number [] = 0
number (byte ∷ rest) = byte * 2 ^ (8 * length rest) + number rest
