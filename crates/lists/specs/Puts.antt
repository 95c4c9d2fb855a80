-- What a step leaves that makes cuts and writes them into a list.
use Rattle.std.specs.Prelude.{ℕ, ◌+◌, ◌≡◌, List, length}
use Rattle.std.proofs.Common.{zero-le}
use Rattle.std.proofs.lemmas.List.Edits.{sets}
use Rattle.laws.specs.Last.{last_or}
use Rattle.lists.specs.declared.Made.{Made}

-- no cut is put yet, and this one was the last before
abbrev pub none_after : (cut : ℕ) → Made
none_after cut = record { count = 0; cut = cut; behind = zero-le }

-- what a step leaves that starts from the cuts `before`: these cuts are made, and written from the next place on as far as the list goes
pub record Puts (cuts : List ℕ) (before after : Made) (list₀ list : List ℕ) : Type 0 where
  pub counted : after.count ≡ before.count + length cuts
  pub last : after.cut ≡ last_or before.cut cuts
  pub kept : list ≡ sets list₀ before.count cuts
