-- What stands beside a number, for every call that answers a count.
use Rattle.std.specs.Prelude.{Ok, Err}
use mathlib.Core.Path.{refl}
use native.Mathlib.Omega.{arith}
use Rattle.terms.specs.Answers.{Answer}
use Rattle.terms.specs.Answers.{answer_number, answer_count}
use Rattle.terms.proofs.Numbers.{some_number}
use Rattle.promises.specs.OneList.{Values}

pub values : (answer : Answer) → Values answer
unfolding answer_number answer_count
values (Ok n) = record { success = λ _. refl; refusal = λ refusal. absurd (refusal refl) }
values (Err why) = record { success = λ none. absurd (omega (arith, some_number why)); refusal = λ _. refl }
