-- A call's rows of the table of numbers, in its order: the first that holds refuses. Document 01, "Numbers answered".
use Rattle.std.specs.Prelude.{ℕ, ◌≡◌, Bool, true, false, List, [], ◌∷◌, eqb, Result, Ok, Err}
use Rattle.terms.specs.declared.Refusal.{Refusal}
use Rattle.terms.specs.Refusals.{number_of}
use Rattle.terms.specs.Answers.{unless}

-- why a row refuses, and whether it holds
pub record Row : Type 0 where
  pub why : Refusal
  pub holds : Bool

abbrev pub row : Refusal → Bool → Row
row why holds = record { why = why; holds = holds }

-- what judging comes to: fine, or refused by one row
abbrev pub Verdict : Type 0
Verdict = Result (Unit {0}) Refusal

abbrev pub first : Bool → Refusal → Verdict → Verdict
first true why later = Err why
first false why later = later

unfoldable pub verdict : List Row → Verdict
verdict [] = Ok tt
verdict (r ∷ rows) = first r.holds r.why (verdict rows)

-- what a call makes of its verdict: the same for its answer, its number and what it leaves
abbrev pub ruled {ℓ} : {A : Type ℓ} → Verdict → (Refusal → A) → A → A
ruled (Ok tt) refused fine = fine
ruled (Err why) refused fine = refused why

-- the number of the first row that holds; 0, a success, where none does
abbrev pub first_row : List Row → ℕ
first_row rows = ruled (verdict rows) number_of 0

-- what a call leaves in lent memory: what it wrote; a refusal leaves what was there, but one keeps what was written
abbrev pub leaves {ℓ} : {A : Type ℓ} → Verdict → (but : Refusal) → (before after : A) → A
leaves v but before after = ruled v (λ why. unless (eqb (number_of why) (number_of but)) before after) after

-- no row of the table refuses by this number
unfoldable pub lacks : Refusal → List Row → Bool
lacks but [] = true
lacks but (r ∷ rows) = unless (eqb (number_of r.why) (number_of but)) (lacks but rows) false

-- lent memory before and after a call that answered a number: a refusal leaves it as it was, but that one number keeps something
pub record Leaves {ℓ} {A : Type ℓ} (number exception : ℕ) (before kept after : A) : Type ℓ where
  pub untouched : (number ≡ 0 → ⊥) → (number ≡ exception → ⊥) → after ≡ before
  pub excepted : number ≡ exception → after ≡ kept
