-- What an amendment counts, and that it answers and leaves what a fresh cut does: document 01, "Amending".
use Rattle.std.specs.Prelude.{ℕ, ◌+◌, ◌≡◌, List, ◌++◌, length}
use Rattle.laws.specs.Over.{over}
use Rattle.terms.specs.Answers.{Answer}
use Rattle.terms.specs.Answers.{answer_number, answer_count}
use Rattle.amending.specs.Answers.{Amendment}
use Rattle.amending.specs.Answers.{amendment_number, front_of, recut_of, back_of}

-- the three counts of an answer
pub record Counts (answer : Amendment) (front recut back : ℕ) : Type 0 where
  pub kept : front_of answer ≡ front
  pub anew : recut_of answer ≡ recut
  pub moved : back_of answer ≡ back

-- a success counts the three parts and writes them one after the other; entries past the last stay
pub record Counted (answer : Amendment) (list₀ list front recut back : List ℕ) : Type 0 where
  pub counts : Counts answer (length front) (length recut) (length back)
  pub written : list ≡ over (front ++ (recut ++ back)) list₀

-- the number is that of a fresh cut, the three counts add up to its count, and the list is left as it leaves it
pub record AsAfresh (answer : Amendment) (afresh : Answer) (list list_afresh : List ℕ) : Type 0 where
  pub number : amendment_number answer ≡ answer_number afresh
  pub count : front_of answer + recut_of answer + back_of answer ≡ answer_count afresh
  pub left : list ≡ list_afresh
