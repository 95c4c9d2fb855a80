-- Comparing two runs of bytes: every run is the same as itself, and as no other.
use Rattle.std.proofs.Common.{◌≡◌, true, List, ℕ, refl}
use Rattle.std.specs.Cmp.Lexicographic.{bytes_decides}
use Rattle.words.specs.Runs.{same}

pub same_self : (l : List ℕ) → same l l ≡ true
unfolding same
same_self l = (bytes_decides l l).1 refl

pub same_true : (a b : List ℕ) → same a b ≡ true → a ≡ b
unfolding same
same_true a b = (bytes_decides a b).0
