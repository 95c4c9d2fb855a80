-- Runs of bytes compared.
use Rattle.std.specs.Prelude.{ℕ, Bool, List, nat_eq}
use Rattle.std.specs.Cmp.Lexicographic.{pointwise}

-- they are as long as each other, and equal byte by byte
unfoldable pub same : List ℕ → List ℕ → Bool
same a b = pointwise nat_eq a b
