-- A carry whose settings are in range and that is in order, as facts by name.
use Prim.Native.Nat.{◌-◌, ◌≤◌, ◌<◌}
use mathlib.Core.Path.{◌≡◌}
use mathlib.Core.Bool.{true}
use lib.ListN.{length, take}
use borrow.Author.Tests.{leb-true, ltb-true, eqb-true}
use Rattle.laws.proofs.Cases.{both_true}
use Rattle.terms.specs.Settings.{in_range}
use Rattle.terms.specs.Answers.{longest}
use Rattle.terms.proofs.Ranges.{Ranges, ranges}
use Rattle.signature.specs.Signatures.{signature_of}
use Rattle.pass_carry.specs.declared.Carry.{Carry}
use Rattle.pass_carry.specs.Carries.{all_zero, in_order}

pub record Usable (c : Carry) : Type 0 where
  pub ranged : Ranges c.settings
  pub whole : length c.window ≡ 48
  pub begun : c.since ≤ c.taken
  pub below : c.since < c.settings.maximum
  pub signed : c.signature ≡ signature_of c.window
  pub short : c.taken ≤ longest

pub usable : (c : Carry) → in_range c.settings ≡ true → in_order c ≡ true → length c.window ≡ 48 → Usable c
unfolding in_order
usable c fine order whole =
    let a = both_true order in
    let b = both_true a.1 in
    let d = both_true b.1 in
    record {
      ranged = ranges c.settings fine;
      whole = whole;
      begun = leb-true _ _ a.0;
      below = ltb-true _ _ b.0;
      signed = eqb-true _ _ d.0;
      short = leb-true c.taken longest (both_true (both_true {a = all_zero (take (48 - c.taken) c.window)} d.1).1).0;
    }
