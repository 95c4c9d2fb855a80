-- An answer as the exported calls give it: document 01's number, and the count beside it.
use Rattle.terms.specs.Answers.{Answer, answer_number, answer_count}
use Rattle.thrunglow.specs.declared.answers.Outcome.{Outcome}

abbrev pub outcome_of : Answer → Outcome
outcome_of answer = record { number = answer_number answer; count = answer_count answer }
