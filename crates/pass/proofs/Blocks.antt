-- A block that no row refuses but the guard, and one that none refuses.
use Rattle.std.specs.Prelude.{Ok}
use Prim.Native.Nat.{ℕ, ◌+◌, ◌≤◌, ◌<◌}
use mathlib.Core.Path.{◌≡◌, sym, ap, ◌∙◌}
use mathlib.Core.List.{List, [], ◌∷◌}
use native.Mathlib.Omega.{arith}
use lib.ListN.{length, take}
use lib.Seq.{take_all}
use borrow.Author.Tests.{le-ltb, ltb-false}
use Rattle.terms.specs.Answers.{answer_count, longest, room_for}
use Rattle.terms.specs.Rows.{verdict}
use Rattle.terms.proofs.Verdicts.{Reaches, top, past, skips, reached, clear, both_clear}
use Rattle.lists.specs.Written.{guard, written_list}
use Rattle.lists.proofs.Written.{written_none, written_first}
use Rattle.pass_carry.specs.declared.Carry.{Carry}
use Rattle.pass_carry.specs.Carries.{block_taken, cuts_in}
use Rattle.pass_carry.specs.Outcomes.{wrote, carry_rows}
use Rattle.pass_carry.proofs.Room.{enough_room}
use Rattle.pass_block.specs.Taking.{taken_outcome}
use Rattle.pass.specs.Calls.{block_rows, block_outcome, block_leaves}

-- no bytes: nothing is taken and nothing written
pub block_empty : (c : Carry) (block list : List ℕ) → length block ≡ 0
    → (wrote c 0 ≡ taken_outcome c block (length list)) × (list ≡ written_list (cuts_in c block) list)
block_empty c block list none =
    let empty : [] ≡ block = take_all 0 block (omega arith) in
    (by_guard ∙ ap (λ l. taken_outcome c l (length list)) empty, unwritten ∙ ap (λ l. written_list (cuts_in c l) list) empty)
  where
    by_guard : wrote c 0 ≡ taken_outcome c [] (length list)
    by_guard = unfold taken_outcome verdict block_taken cuts_in in rw (le-ltb (length list) 0 (omega arith))

    unwritten : list ≡ written_list (cuts_in c []) list
    unwritten = unfold cuts_in in sym (written_none list)

module _ (c : Carry) (block : List ℕ) (room : ℕ) (admitted : verdict (carry_rows c) ≡ Ok tt) (short : c.taken + length block ≤ longest)
    (lent : room_for c.settings.minimum (length block) ≤ room) where
  -- only the guard is left
  pub guarded : Reaches (block_rows c block room) (guard (cuts_in c block) room ∷ [])
  unfolding block_rows
  guarded = skips (carry_rows c) admitted (past (le-ltb _ _ short) (past (le-ltb _ _ lent) top))

  -- and the room asked for is enough
  pub block_fine : 0 < c.settings.minimum → verdict (block_rows c block room) ≡ Ok tt
  block_fine positive = reached guarded ∙ unguarded
    where
      unguarded : verdict (guard (cuts_in c block) room ∷ []) ≡ Ok tt
      unguarded = unfold verdict in rw (le-ltb room (length (cuts_in c block)) (omega (arith, lent, enough_room block c positive)))

-- a block that no row refuses: what it answers, and the entries that it says it wrote
module _ (c : Carry) (block list : List ℕ) (fine : verdict (block_rows c block (length list)) ≡ Ok tt) where
  pub block_answers : block_outcome c block (length list) ≡ wrote (block_taken c block) (length (cuts_in c block))
  unfolding block_outcome
  block_answers = rw fine

  roomy : length (cuts_in c block) ≤ length list
  unfolding block_rows
  roomy = ltb-false _ _ (clear _ _ _ (clear _ _ _ (clear _ _ _ (both_clear (carry_rows c) _ fine).1).1).1).0

  pub block_writes : take (answer_count (block_outcome c block (length list)).answer) (block_leaves c block list) ≡ cuts_in c block
  unfolding answer_count block_leaves
  block_writes = rw (block_answers, fine) (written_first (cuts_in c block) list roomy)
