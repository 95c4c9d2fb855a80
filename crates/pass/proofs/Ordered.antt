-- The carry of a prefix is in order.
use Prim.Native.Nat.{ℕ, zero, suc, ◌-◌, ◌≤◌, ◌<◌}
use mathlib.Core.Path.{◌≡◌, sym, ap, ◌∙◌}
use mathlib.Core.Bool.{true}
use mathlib.Core.List.{List, ◌++◌}
use native.Mathlib.Omega.{arith}
use lib.ListN.{length, take, drop, replicate}
use lib.Seq.{take-append-le}
use borrow.Author.Tests.{le-leb, lt-ltb, eq-eqb}
use Rattle.terms.specs.declared.Settings.{Settings}
use Rattle.terms.specs.Answers.{longest}
use Rattle.terms.proofs.Ranges.{Ranges}
use Rattle.rule.proofs.Hops.{hop_long}
use Rattle.signature.specs.Signatures.{signature_of}
use Rattle.cutting.specs.Marks.{mark}
use Rattle.pass_carry.specs.declared.Carry.{Carry}
use Rattle.pass_carry.specs.Carries.{all_zero, in_order}
use Rattle.pass.proofs.Prefix.{CarryOf, continues_there}

-- of k zeros before a log, those past the first t are zero
zeros : (k t : ℕ) (log : List ℕ) → all_zero (take (k - t) (drop t (replicate k 0 ++ log))) ≡ true
unfolding all_zero
zeros zero t log = let none : 0 - t ≡ 0 = omega arith in rw none
zeros (suc k) zero log =
    let all : suc k - 0 ≡ suc k = omega arith in
    let rest : k - 0 ≡ k = omega arith in
    rw all (rw rest at (zeros k zero log))
zeros (suc k) (suc t) log = let fewer : suc k - suc t ≡ k - t = omega arith in rw fewer (zeros k t log)

module _ (s : Settings) (log rest written : List ℕ) (c : Carry) (ok : Ranges s) (is : CarryOf s log rest written c) where
  zeros_first : all_zero (take (48 - c.taken) c.window) ≡ true
  zeros_first =
      ap all_zero (sym (take-append-le (48 - c.taken) c.window rest (omega (arith, is.whole))) ∙ ap (take (48 - c.taken)) is.ahead)
      ∙ zeros 48 c.taken log

  below : c.since < c.settings.maximum
  below =
      let order : c.settings.minimum ≤ c.settings.maximum = rw is.same ok.ordered in
      let there = continues_there s log rest written c ok is in
      omega (arith, there.tied, there.ahead, hop_long (mark s log) c.settings.minimum c.settings.maximum is.last order)

  pub in_order_lem : length log ≤ longest → in_order c ≡ true
  unfolding in_order
  in_order_lem fits =
      rw (
        le-leb c.since c.taken (omega (arith, is.tied)),
        lt-ltb c.since c.settings.maximum below,
        eq-eqb c.signature (signature_of c.window) is.signed,
        zeros_first,
        le-leb c.taken longest (omega (arith, is.here)),
        le-leb c.closed 1 (omega (arith, is.open_still)),
      )
