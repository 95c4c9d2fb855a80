-- A list of cuts written into a lent list as far as that goes: by the room there is, and by the steps that put it there.
use Rattle.std.specs.Prelude.{Ok, Err}
use Prim.Native.Nat.{ℕ, ◌≤◌, ◌<◌}
use mathlib.Core.Path.{◌≡◌, ap, ◌∙◌}
use mathlib.Core.List.{List, []}
use native.Mathlib.Nat.{zero-add}
use native.Mathlib.Omega.{arith}
use lib.ListN.{length, take}
use lib.Seq.{take_all}
use borrow.Author.Tests.{le-ltb, lt-ltb}
use Rattle.laws.specs.Over.{over}
use Rattle.laws.proofs.Writing.{over_none, take_over}
use Rattle.laws.proofs.Sets.{sets_written}
use Rattle.terms.specs.declared.Refusal.TheVariants.{ListFull}
use Rattle.terms.specs.Rows.{verdict}
use Rattle.lists.specs.declared.Made.{Made}
use Rattle.lists.specs.Puts.{Puts, none_after}
use Rattle.lists.specs.Written.{written_answer, written_list}

-- there is room for all
pub written_whole : (l list : List ℕ) → length l ≤ length list → written_list l list ≡ over l list
unfolding written_list
written_whole l list h = ap (λ k. over k list) (take_all (length list) l h)

pub written_none : (list : List ℕ) → written_list [] list ≡ list
written_none list = written_whole [] list (omega arith) ∙ over_none list

-- the list then holds them first
pub written_first : (l list : List ℕ) → length l ≤ length list → take (length l) (written_list l list) ≡ l
written_first l list h = ap (take (length l)) (written_whole l list h) ∙ take_over l list

-- the guard as the code asks it, once all are counted
module _ (cuts : List ℕ) (room : ℕ) {count : ℕ} (counted : count ≡ length cuts) where
  pub list_full : room < count → Err ListFull ≡ written_answer cuts room
  unfolding written_answer verdict
  list_full h = rw (lt-ltb _ _ (rw counted at h))

  pub all_written : count ≤ room → Ok count ≡ written_answer cuts room
  unfolding written_answer verdict
  all_written h = rw (le-ltb _ _ (rw counted at h)) (ap Ok counted)

-- what steps from the first place on leave: the cuts counted, and the list that holds them
module _ {cuts list₀ list : List ℕ} {after : Made} (made : Puts cuts (none_after 0) after list₀ list) where
  pub puts_counted : after.count ≡ length cuts
  puts_counted = made.counted ∙ zero-add (length cuts)

  pub puts_written : list ≡ written_list cuts list₀
  unfolding written_list
  puts_written = made.kept ∙ sets_written list₀ cuts
