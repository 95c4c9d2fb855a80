-- The lines that the program prints, as bytes.
use Rattle.std.specs.Prelude.{ℕ, zero, suc, ◌-◌, ◌^◌, cond, List, [], ◌∷◌, ◌++◌, nat_lt}
use Rattle.io.specs.Digits.{last_digits}

-- the fewest decimal digits that hold n, where it takes at least k and at most k + spare
unfoldable pub places : ℕ → ℕ → ℕ → ℕ
places zero k n = k
places (suc spare) k n = cond (nat_lt n (10 ^ k)) k (places spare (suc k) n)

-- a 64-bit number in decimal digits, which are 1 to 20
unfoldable pub spelled : ℕ → List ℕ
spelled n = last_digits 10 (places 19 1 n) n

-- two numbers with a run of bytes between them, and a line end
unfoldable pub pair : ℕ → List ℕ → ℕ → List ℕ
pair n between m = spelled n ++ (between ++ (spelled m ++ (10 ∷ [])))

-- a line a cut: offset, space, length of its piece; each piece begins at the cut before it, the first at `last`
unfoldable pub lines : ℕ → List ℕ → List ℕ
lines last [] = []
lines last (cut ∷ rest) = pair cut (32 ∷ []) (cut - last) ++ lines cut rest

-- the last line, `cuts C bytes B`
unfoldable pub counts : ℕ → ℕ → List ℕ
counts cuts bytes = (99 ∷ 117 ∷ 116 ∷ 115 ∷ 32 ∷ []) ++ pair cuts (32 ∷ 98 ∷ 121 ∷ 116 ∷ 101 ∷ 115 ∷ 32 ∷ []) bytes
