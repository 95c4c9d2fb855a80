-- The last entry of lists.
use Prim.Native.Nat.{ℕ}
use mathlib.Core.Path.{◌≡◌, refl}
use mathlib.Core.List.{List, [], ◌∷◌, ◌++◌}
use Rattle.laws.specs.Last.{last_or}

pub last_joined : (c : ℕ) (l k : List ℕ) → last_or c (l ++ k) ≡ last_or (last_or c l) k
unfolding last_or
last_joined c [] k = refl
last_joined c (x ∷ l) k = last_joined x l k
