-- What stands beside an answer, as document 01's "Numbers answered" counts it, and the two limits that many calls test.
use Rattle.std.specs.Prelude.{ℕ, ◌+◌, ◌/◌, ◌^◌, Bool, true, false, Result, Ok, Err}
use Rattle.terms.specs.declared.Refusal.{Refusal}
use Rattle.terms.specs.Refusals.{number_of}

-- what a call answers: the entries or bytes written, or why it is refused
abbrev pub Answer : Type 0
Answer = Result ℕ Refusal

-- the number answered; 0 stands beside a success
unfoldable pub answer_number : Answer → ℕ
answer_number (Ok n) = 0
answer_number (Err why) = number_of why

-- the entries or bytes written; 0 beside a refusal
unfoldable pub answer_count : Answer → ℕ
answer_count (Ok n) = n
answer_count (Err why) = 0

-- a log has at most so many bytes
abbrev pub longest : ℕ
longest = 2 ^ 40

-- the entries that cutting so many bytes needs room for
abbrev pub room_for : ℕ → ℕ → ℕ
room_for minimum bytes = bytes / minimum + 1

-- one row of a call's refusals: refused, unless the test passes
abbrev pub unless {ℓ} : {A : Type ℓ} → Bool → A → A → A
unless true refused answer = answer
unless false refused answer = refused
