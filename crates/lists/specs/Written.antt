-- Cuts written into a lent list as far as it goes, and the guard where it does not go far enough: document 01, number 17.
use Rattle.std.specs.Prelude.{ℕ, List, [], ◌∷◌, ltb, length, take, Ok, Err}
use Rattle.laws.specs.Over.{over}
use Rattle.terms.specs.Answers.{Answer}
use Rattle.terms.specs.declared.Refusal.TheVariants.{ListFull}
use Rattle.terms.specs.Rows.{Row, row, verdict, ruled}

-- a list with so many places is too short for the cuts
abbrev pub guard : (cuts : List ℕ) (room : ℕ) → Row
guard cuts room = row ListFull (ltb room (length cuts))

-- all of the cuts, or as many as there are places and then the guard
unfoldable pub written_answer : (cuts : List ℕ) (room : ℕ) → Answer
written_answer cuts room = ruled (verdict (guard cuts room ∷ [])) Err (Ok (length cuts))

unfoldable pub written_list : (cuts list : List ℕ) → List ℕ
written_list cuts list = over (take (length list) cuts) list
