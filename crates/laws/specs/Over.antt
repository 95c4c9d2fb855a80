-- Writing a lent list: what it holds once its first entries, or those from a place on, are replaced.
use Rattle.std.specs.Prelude.{ℕ, List, ◌++◌, length, take, drop}

-- b with its first entries replaced by l
unfoldable pub over : List ℕ → List ℕ → List ℕ
over l b = l ++ drop (length l) b

-- b with its entries from place k on replaced by l, as far as l goes
unfoldable pub over_from : ℕ → List ℕ → List ℕ → List ℕ
over_from k l b = take k b ++ over l (drop k b)
