-- A log that arrives in blocks: what fresh, a call a block and close write, one after the other.
use Rattle.std.specs.Prelude.{ℕ, ◌≤◌, ◌≡◌, List, [], ◌∷◌, ◌++◌, length, take, Ok}
use Rattle.terms.specs.declared.Settings.{Settings}
use Rattle.terms.specs.Answers.{answer_count, room_for}
use Rattle.pass_carry.specs.declared.Carry.{Carry}
use Rattle.pass_carry.specs.declared.Outcome.{Outcome}
use Rattle.pass.specs.Calls.{fresh_outcome, block_outcome, block_leaves, close_outcome, close_leaves}

-- a block, and the list that is lent with it
pub record Lent : Type 0 where
  pub block : List ℕ
  pub list : List ℕ

abbrev pub taking : Carry → Lent → Outcome
taking c k = block_outcome c k.block (length k.list)

-- the log that the blocks are parts of
unfoldable pub joined : List Lent → List ℕ
joined [] = []
joined (k ∷ ks) = k.block ++ joined ks

-- the carry once the blocks are taken, from the carry c on
unfoldable pub carry_after : Carry → List Lent → Carry
carry_after c [] = c
carry_after c (k ∷ ks) = carry_after (taking c k).carry ks

-- the entries that their calls say they wrote
unfoldable pub blocks_written : Carry → List Lent → List ℕ
blocks_written c [] = []
blocks_written c (k ∷ ks) = take (answer_count (taking c k).answer) (block_leaves c k.block k.list) ++ blocks_written (taking c k).carry ks

-- and closing, with the list last
unfoldable pub close_written : Carry → (last : List ℕ) → List ℕ
close_written c last = take (answer_count (close_outcome c (length last)).answer) (close_leaves c last)

unfoldable pub written_by : Settings → List Lent → (last : List ℕ) → List ℕ
written_by s ks last = blocks_written (fresh_outcome s).carry ks ++ close_written (carry_after (fresh_outcome s).carry ks) last

-- none of the blocks is refused
pub data Unrefused : Carry → List Lent → Type 0 where
  none : {c : Carry} → Unrefused c []
  takes : {c : Carry} {k : Lent} {ks : List Lent} {n : ℕ} → (taking c k).answer ≡ Ok n → Unrefused (taking c k).carry ks → Unrefused c (k ∷ ks)

-- no call is refused: fresh, a block each, and closing
pub record NoneRefused (s : Settings) (calls : List Lent) (last : List ℕ) : Type 0 where
  pub fresh : (fresh_outcome s).answer ≡ Ok 0
  pub blocks : Unrefused (fresh_outcome s).carry calls
  pub count : ℕ
  pub close : (close_outcome (carry_after (fresh_outcome s).carry calls) (length last)).answer ≡ Ok count

-- each list has the room that its block needs
pub data Roomy (minimum : ℕ) : List Lent → Type 0 where
  none : Roomy minimum []
  more : {k : Lent} {ks : List Lent} → room_for minimum (length k.block) ≤ length k.list → Roomy minimum ks → Roomy minimum (k ∷ ks)
