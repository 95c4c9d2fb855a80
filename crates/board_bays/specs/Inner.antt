-- What only inner functions cite: the steps of a list, judged by any test.
use Rattle.std.specs.Prelude.{ℕ, Bool, true, ◌&&◌, List, [], ◌∷◌}

-- each step passes the test: from a to the first of the offsets, and from one to the next
unfoldable pub each_step : (test : ℕ → ℕ → Bool) (a : ℕ) (offsets : List ℕ) → Bool
each_step test a [] = true
each_step test a (p ∷ offsets) = test a p && each_step test p offsets
