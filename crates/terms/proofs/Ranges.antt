-- Settings that passed their test, as facts by name.
use Prim.Native.Nat.{◌-◌, ◌^◌, ◌≤◌, ◌<◌}
use mathlib.Core.Path.{◌≡◌}
use mathlib.Core.Bool.{true}
use native.Mathlib.Omega.{arith}
use borrow.Author.Tests.{leb-true}
use Rattle.laws.proofs.Cases.{both_true}
use Rattle.terms.specs.declared.Settings.{Settings}
use Rattle.terms.specs.Settings.{in_range}

pub record Ranges (s : Settings) : Type 0 where
  pub some_bits : 1 ≤ s.bits
  pub few_bits : s.bits ≤ 31
  pub some_target : 1 ≤ s.target
  pub low_target : s.target ≤ 2 ^ s.bits - 1
  pub window-fits : 48 ≤ s.minimum
  pub positive : 0 < s.minimum
  pub bounded : s.maximum ≤ 16_777_216
  pub ordered : s.minimum ≤ s.maximum

pub ranges : (s : Settings) → in_range s ≡ true → Ranges s
unfolding in_range
ranges s ok =
    let a = both_true ok in
    let b = both_true a.1 in
    let c = both_true b.1 in
    let d = both_true c.1 in
    let e = both_true d.1 in
    let f = both_true e.1 in
    record {
      some_bits = leb-true _ _ a.0;
      few_bits = leb-true _ _ b.0;
      some_target = leb-true _ _ c.0;
      low_target = leb-true _ _ d.0;
      window-fits = leb-true _ _ e.0;
      positive = omega (arith, leb-true 48 s.minimum e.0);
      bounded = leb-true _ _ f.0;
      ordered = leb-true _ _ f.1;
    }
