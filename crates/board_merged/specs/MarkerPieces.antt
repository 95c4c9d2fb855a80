-- A marker piece, over any marks: document 01, "the first mark b whose neighbour mark a before it .. minimum <= b - a <= maximum - minimum".
use Rattle.std.specs.Prelude.{ℕ, suc, ◌+◌, ◌≤◌, ◌≡◌, Bool, true}
use Rattle.rule.specs.Rule.{Unmarked}

pub record MarkerPiece (mark : ℕ → Bool) (minimum maximum a b : ℕ) : Type 0 where
  pub begins : mark a ≡ true
  pub ends : mark b ≡ true
  pub neighbours : Unmarked mark (suc a) b
  pub at_least : a + minimum ≤ b
  pub at_most : b + minimum ≤ a + maximum
