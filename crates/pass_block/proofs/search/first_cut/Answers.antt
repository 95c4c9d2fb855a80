-- Each `return` is one law about the search.
use Rattle.std.proofs.Common.{◌≡◌, ℕ, suc, ◌+◌, ◌-◌, min, max, List, length, take, arith}
use Rattle.terms.specs.declared.Settings.{Settings}
use Rattle.terms.proofs.Ranges.{ranges}
use Rattle.rule.specs.Rule.{first_mark}
use Rattle.cutting.specs.Marks.{mark}
use Rattle.pass_block.specs.Taking.{head_of}
use Rattle.pass_block.proofs.FirstCut.{EdgeSearched, edge_far, ends_early, ends_late}
use Rattle.pass_block.proofs.search.first_cut.Goals as goal

searched : (s : Settings) (since : ℕ) (head block : List ℕ) {short first last edge r : ℕ} → (length head ≡ 96) × (head ≡ head_of (take 48 head) block)
    → short ≡ s.minimum - since → first ≡ max short 1 → last ≡ min (length block) (s.maximum - since) → edge ≡ min last 48
    → r ≡ first_mark (mark s head) (suc (48 + edge) - (48 + first)) (48 + first) (48 + edge) → EdgeSearched s since head block first last edge r
searched s since head block asked is_short starts stops is_edge told =
    record { starts = rw is_short at starts; stops = omega arith; is_edge = omega arith; room = asked.0; heads = asked.1; told = told }

pub overflow_add-first : goal.overflow_add-first
overflow_add-first c =
    let allowed = ranges _ c.args.cutter.now.ranged in omega (arith, c.max-first.ensures, c.saturating_sub.ensures, allowed.ordered, allowed.bounded)

pub overflow_sub-at : goal.overflow_sub-at
overflow_sub-at c =
    edge_far
    (searched _ c.args.since _ c.args.block.now c.requires.head_len c.saturating_sub.ensures c.max-first.ensures c.min-last.ensures c.min-edge.ensures c.first_mark-at.ensures)

pub returns-then-at-edge : goal.returns-then-at-edge
returns-then-at-edge c =
    ends_early
    (searched _ c.args.since _ c.args.block.now c.requires.head_len c.saturating_sub.ensures c.max-first.ensures c.min-last.ensures c.min-edge.ensures c.first_mark-at.ensures)
    c.if-at-edge.true

pub returns : goal.returns
returns c =
    ends_late
    (searched _ c.args.since _ c.args.block.now c.requires.head_len c.saturating_sub.ensures c.max-first.ensures c.min-last.ensures c.min-edge.ensures c.first_mark-at.ensures)
    c.if-at-edge.false c.max.ensures c.first_mark.ensures
