-- The invariant of `board_bays::judging::each_step`: by each test that the closure computes, all steps pass exactly where those that are left do.
use Rattle.std.proofs.Common.{ℕ, Bool, ◌≡◌, ◌<◌, ◌^◌, drop}
use Rattle.board_bays.specs.Inner.{each_step}
use Rattle.board_bays.proofs.judging.each_step.Given as goal

abbrev pub invariant-loop-p : goal.invariant-loop-p
invariant-loop-p g l = record {
  bounded : l.before < 2 ^ 64;
  judged : (test : ℕ → ℕ → Bool) → ((a p : ℕ) (r : Bool) → a < 2 ^ 64 → p < 2 ^ 64 → goal.F-post g l.fits a p r → r ≡ test a p)
      → each_step test l.from l.offsets ≡ each_step test l.before (drop l.p-index l.offsets);
}
