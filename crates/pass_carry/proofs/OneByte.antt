-- One byte taken, by whether it ends a piece: the cuts of a block that begins with it, and the bytes since the last cut.
use Prim.Native.Nat.{ℕ, ◌+◌, ◌≤◌}
use mathlib.Core.Path.{◌≡◌}
use mathlib.Core.Bool.{true, false}
use mathlib.Core.List.{List, ◌∷◌}
use borrow.Author.Tests.{leb-true}
use Rattle.laws.proofs.Cases.{both_true}
use Rattle.pass_carry.specs.declared.Carry.{Carry}
use Rattle.pass_carry.specs.Carries.{cuts_at, byte_taken, cuts_in}

module _ (c : Carry) (b : ℕ) where
  module _ (cuts : cuts_at c b ≡ true) where
    -- the piece is then minimum long
    pub long_enough : c.settings.minimum ≤ c.since + 1
    unfolding cuts_at
    long_enough = leb-true _ _ (both_true cuts).0

    pub since_cut : (byte_taken c b).since ≡ 0
    unfolding byte_taken
    since_cut = rw (cuts, byte_taken)

    pub cuts_cut : (bs : List ℕ) → cuts_in c (b ∷ bs) ≡ (c.taken + 1) ∷ cuts_in (byte_taken c b) bs
    unfolding cuts_in
    cuts_cut bs = rw (cuts, cuts_in)

  module _ (none : cuts_at c b ≡ false) where
    pub since_on : (byte_taken c b).since ≡ c.since + 1
    unfolding byte_taken
    since_on = rw (none, byte_taken)

    pub cuts_on : (bs : List ℕ) → cuts_in c (b ∷ bs) ≡ cuts_in (byte_taken c b) bs
    unfolding cuts_in
    cuts_on bs = rw (none, cuts_in)
