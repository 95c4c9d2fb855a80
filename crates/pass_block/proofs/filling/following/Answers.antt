-- From the block's end on there is no offset to look at.
use Rattle.std.proofs.Common.{◌≡◌, ℕ, ◌+◌, List, length, arith}
use Rattle.terms.specs.declared.Settings.{Settings}
use Rattle.terms.proofs.Ranges.{Ranges, ranges}
use Rattle.cutting.specs.Marks.{mark, next_cut}
use Rattle.cutting.proofs.Searching.{searched, too_near}
use Rattle.pass_block.proofs.filling.following.Goals as goal

end-follows : (s : Settings) (block : List ℕ) (cut : ℕ) → Ranges s → cut ≡ length block → cut ≡ next_cut s block cut
end-follows s block cut ok e =
    searched s block cut cut cut (omega arith) (too_near (mark s block) (cut + s.minimum) cut (omega (arith, ok.window-fits)))

pub returns-then-cut-block : goal.returns-then-cut-block
returns-then-cut-block c = end-follows _ _ _ (ranges _ c.args.cutter.now.ranged) c.if-cut-block.true
