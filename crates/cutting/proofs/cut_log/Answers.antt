-- Settings in range have a minimum of 48 at least.
use Rattle.std.proofs.Common.{rules}
use Rattle.terms.specs.Rows.{verdict}
use Rattle.lists.specs.Written.{written_answer}
use Rattle.cutting.specs.Calls.{cut_log_rows, cut_log_answer}
use Rattle.terms.proofs.Ranges.{ranges}
use Rattle.cutting.proofs.cut_log.Goals as goal

pub nonzero_div-bytes : goal.nonzero_div-bytes
nonzero_div-bytes c = (ranges _ (rw c.in_ok-rule.ensures.ok at c.in_ok-rule.rule.ranged)).positive

pub returns-clause-answer : goal.returns-clause-answer
unfolding cut_log_rows cut_log_answer written_answer verdict
returns-clause-answer c = search rules
