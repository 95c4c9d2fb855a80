-- What the rows that judge every carry say of one.
use Rattle.std.specs.Prelude.{Ok}
use mathlib.Core.Path.{◌≡◌, refl, sym, ap}
use mathlib.Core.Bool.{true, not}
use native.Mathlib.Omega.{arith}
use borrow.Author.Tests.{not-false, ne_eqb}
use Rattle.terms.specs.declared.Refusal.TheVariants.{ListFull}
use Rattle.terms.specs.Settings.{in_range}
use Rattle.terms.specs.Rows.{verdict, lacks}
use Rattle.terms.proofs.Verdicts.{top, past, judged_fine, clear}
use Rattle.pass_carry.specs.declared.Carry.{Carry}
use Rattle.pass_carry.specs.Carries.{in_order}
use Rattle.pass_carry.specs.Outcomes.{carry_rows}

-- none of them is the guard
pub plain_carry : (c : Carry) → lacks ListFull (carry_rows c) ≡ true
unfolding lacks carry_rows
plain_carry c = refl

-- a carry in range and in order that is open is judged fine
pub admitted : (c : Carry) → in_range c.settings ≡ true → in_order c ≡ true → c.closed ≡ 0 → verdict (carry_rows c) ≡ Ok tt
unfolding carry_rows
admitted c ranged ordered open_still =
    let shut : (c.closed ≡ 1 → ⊥) = λ e. omega arith in
    sym (judged_fine (past (ap not ranged) (past (ap not ordered) (past (ne_eqb _ _ shut) top))))

-- and no other
pub passed : (c : Carry) → verdict (carry_rows c) ≡ Ok tt → (in_range c.settings ≡ true) × (in_order c ≡ true)
unfolding carry_rows
passed c v = let a = clear _ _ _ v in (not-false _ a.0, not-false _ (clear _ _ _ a.1).0)
