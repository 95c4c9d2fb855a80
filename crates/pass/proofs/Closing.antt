-- The cut that closing adds, and closing row by row.
use Rattle.std.specs.Prelude.{Ok, Err}
use Prim.Native.Nat.{ℕ, ◌≤◌, ◌<◌}
use mathlib.Core.Path.{◌≡◌, sym, ap, ◌∙◌}
use mathlib.Core.List.{List, [], ◌∷◌}
use native.Mathlib.Omega.{arith}
use lib.ListN.{length, set, take}
use borrow.Author.Tests.{lt-ltb, le-ltb, ltb-false}
use Rattle.laws.specs.Over.{over}
use Rattle.laws.proofs.Cases.{by_lt}
use Rattle.laws.proofs.Writing.{over_none, over_more}
use Rattle.terms.specs.declared.Refusal.{Refusal}
use Rattle.terms.specs.declared.Refusal.TheVariants.{RoomTooShort}
use Rattle.terms.specs.Answers.{answer_count}
use Rattle.terms.specs.Rows.{verdict}
use Rattle.terms.proofs.Verdicts.{top, past, joined, skips, judged_wrong, judged_fine, clear, both_clear}
use Rattle.lists.specs.Written.{written_list}
use Rattle.lists.proofs.Written.{written_none, written_first, written_whole}
use Rattle.pass_carry.specs.declared.Carry.{Carry}
use Rattle.pass_carry.specs.Outcomes.{refused, wrote, carry_rows}
use Rattle.pass.specs.Calls.{closing_cut, closed_carry, close_rows, close_outcome, close_leaves}

pub closing_open : (c : Carry) → 0 < c.since → closing_cut c ≡ c.taken ∷ []
unfolding closing_cut
closing_open c h = rw (lt-ltb 0 c.since h, closing_cut)

pub closing_shut : (c : Carry) → c.since ≤ 0 → closing_cut c ≡ []
unfolding closing_cut
closing_shut c h = rw (le-ltb 0 c.since h, closing_cut)

closing_few : (c : Carry) → length (closing_cut c) ≤ 1
closing_few c = by_lt 0 c.since (λ h. rw (closing_open c h) (omega arith)) (λ h. rw (closing_shut c h) (omega arith))

-- where a row refuses it
pub close_wrong : (c : Carry) (list : List ℕ) {why : Refusal} → verdict (close_rows c (length list)) ≡ Err why
    → (refused c why ≡ close_outcome c (length list)) × (list ≡ close_leaves c list)
unfolding close_outcome close_leaves
close_wrong c list e = (rw e, rw e)

pub close_judged : (c : Carry) (room : ℕ) {why : Refusal} → verdict (carry_rows c) ≡ Err why → verdict (close_rows c room) ≡ Err why
unfolding close_rows
close_judged c room e = joined (carry_rows c) _ ∙ rw e

pub close_short : (c : Carry) (room : ℕ) → verdict (carry_rows c) ≡ Ok tt → room < 1 → verdict (close_rows c room) ≡ Err RoomTooShort
unfolding close_rows
close_short c room admitted h = sym (judged_wrong (skips (carry_rows c) admitted top) (lt-ltb room 1 h))

pub close_fine : (c : Carry) (room : ℕ) → verdict (carry_rows c) ≡ Ok tt → 1 ≤ room → verdict (close_rows c room) ≡ Ok tt
unfolding close_rows
close_fine c room admitted h = sym (judged_fine (skips (carry_rows c) admitted (past (le-ltb room 1 h) top)))

-- where none does
module _ (c : Carry) (list : List ℕ) (fine : verdict (close_rows c (length list)) ≡ Ok tt) where
  pub answered : close_outcome c (length list) ≡ wrote (closed_carry c) (length (closing_cut c))
  unfolding close_outcome
  answered = rw fine

  pub left : close_leaves c list ≡ written_list (closing_cut c) list
  unfolding close_leaves
  left = rw fine

  room : 1 ≤ length list
  unfolding close_rows
  room = ltb-false _ _ (clear _ _ _ (both_clear (carry_rows c) _ fine).1).0

  pub fits : length (closing_cut c) ≤ length list
  fits = omega (arith, room, closing_few c)

  -- the entries that closing says it wrote
  pub closing_written : take (answer_count (close_outcome c (length list)).answer) (close_leaves c list) ≡ closing_cut c
  unfolding answer_count
  closing_written = rw (answered, left) (written_first (closing_cut c) list fits)

  pub close_writes : 0 < c.since → (wrote (closed_carry c) 1 ≡ close_outcome c (length list)) × (set list 0 c.taken ≡ close_leaves c list)
  close_writes h = (
    sym (answered ∙ ap (λ l. wrote (closed_carry c) (length l)) (closing_open c h)),
    sym (left ∙ written_whole (closing_cut c) list fits ∙ ap (λ l. over l list) (closing_open c h)
        ∙ sym (over_more [] list c.taken room) ∙ ap (λ l. set l 0 c.taken) (over_none list)),
  )

  pub close_stays : c.since ≤ 0 → (wrote (closed_carry c) 0 ≡ close_outcome c (length list)) × (list ≡ close_leaves c list)
  close_stays h = (
    sym (answered ∙ ap (λ l. wrote (closed_carry c) (length l)) (closing_shut c h)),
    sym (left ∙ ap (λ l. written_list l list) (closing_shut c h) ∙ written_none list),
  )
