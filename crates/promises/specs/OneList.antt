-- What a mark is, as a polynomial divided; and a success that wrote a whole list.
use Rattle.std.specs.Prelude.{ℕ, ◌+◌, ◌-◌, ◌%◌, ◌^◌, ◌≤◌, ◌<◌, ◌≡◌, List, [], ◌∷◌, length, Ok}
use Rattle.std.specs.Int.Bits.{bit_xor}
use Rattle.laws.specs.Over.{over}
use Rattle.terms.specs.declared.Settings.{Settings}
use Rattle.terms.specs.Answers.{Answer}
use Rattle.terms.specs.Answers.{answer_number, answer_count}
use Rattle.signature.specs.Polynomials.{clmul}
use Rattle.signature.specs.Signatures.{number, window, degree, low_part}

-- K from 1 to 31, target from 1 to 2^K - 1, minimum from 48 and maximum up to 16,777,216, with minimum at most maximum
pub record InRange (s : Settings) : Type 0 where
  pub bits : (1 ≤ s.bits) × (s.bits ≤ 31)
  pub target : (1 ≤ s.target) × (s.target < 2 ^ s.bits)
  pub minimum : 48 ≤ s.minimum
  pub maximum : s.maximum ≤ 16_777_216
  pub ordered : s.minimum ≤ s.maximum

-- a mark lies from 48 to the log's end; the 48 bytes before it, as a polynomial, leave by x^31 + x^3 + 1 a remainder whose low K bits are the target
pub record Marked (s : Settings) (log : List ℕ) (p : ℕ) : Type 0 where
  pub above : 48 ≤ p
  pub inside : p ≤ length log
  pub remainder : ℕ
  pub quotient : ℕ
  pub reduced : remainder < 2 ^ degree
  pub divided : number (window log (p - 48)) ≡ bit_xor (clmul quotient (2 ^ degree + low_part)) remainder
  pub on_target : remainder % 2 ^ s.bits ≡ s.target

-- a log of n bytes in pieces from an offset on: every piece but the last is from minimum to maximum long, the last from 1 to maximum and ends at n
pub data Pieces (minimum maximum n : ℕ) : (start : ℕ) → List ℕ → Type 0 where
  no_more : Pieces minimum maximum n n []
  last : {start : ℕ} → start < n → n ≤ start + maximum → Pieces minimum maximum n start (n ∷ [])
  piece : {start cut : ℕ} {later : List ℕ} → start + minimum ≤ cut → cut ≤ start + maximum → cut < n → Pieces minimum maximum n cut later
      → Pieces minimum maximum n start (cut ∷ later)

-- what stands beside a number: beside 0 the count of what was written, beside a refusal 0
pub record Values (answer : Answer) : Type 0 where
  pub success : answer_number answer ≡ 0 → answer ≡ Ok (answer_count answer)
  pub refusal : (answer_number answer ≡ 0 → ⊥) → answer_count answer ≡ 0

-- a success writes the whole list and nothing but it
pub record Lists (list₀ list cuts : List ℕ) (count : ℕ) : Type 0 where
  pub counted : count ≡ length cuts
  pub written : list ≡ over cuts list₀
