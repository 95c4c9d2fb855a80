-- What the inner functions ask.
use Rattle.std.specs.Prelude.{◌≡◌, ℕ, ◌+◌, ◌≤◌, List, length}
use Rattle.sheet_format.specs.Clean.{trailer_of}

-- the distance is the one that the trailer at the end of bytes gives, and the body that it tells of fits before the trailer
pub record Placed (distance : ℕ) (bytes : List ℕ) : Type 0 where
  pub told : distance ≡ (trailer_of bytes).distance
  pub fits : distance + 32 ≤ length bytes
