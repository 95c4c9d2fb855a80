-- The end of a list.
use Rattle.std.specs.Prelude.{ℕ, List, [], ◌∷◌}

-- the last entry of a list, or c where it has none
unfoldable pub last_or : ℕ → List ℕ → ℕ
last_or c [] = c
last_or c (x ∷ xs) = last_or x xs
