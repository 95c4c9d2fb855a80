-- The single pass as the exported calls answer it.
use Rattle.terms.specs.Answers.{answer_number, answer_count}
use Rattle.pass_carry.specs.declared.Outcome.{Outcome}
use Rattle.thrunglow.specs.declared.passes.Passed.{Passed}

abbrev pub passed_of : Outcome → Passed
passed_of outcome =
    record {
      number = answer_number outcome.answer;
      count = answer_count outcome.answer;
      carry = outcome.carry;
    }
