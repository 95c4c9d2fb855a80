-- The single pass as document 01 tells it: a carry in order, what a refusal hands back, and the carry of a log's bytes so far.
use Rattle.std.specs.Prelude.{ℕ, ◌+◌, ◌^◌, ◌≤◌, ◌<◌, ◌≡◌, List, ◌++◌, length, drop, get_or, replicate}
use Rattle.laws.specs.Last.{last_or}
use Rattle.terms.specs.declared.Settings.{Settings}
use Rattle.terms.specs.Answers.{answer_number, answer_count}
use Rattle.rule.specs.Rule.{cuts_up_to}
use Rattle.signature.specs.Signatures.{signature_of}
use Rattle.cutting.specs.Marks.{mark}
use Rattle.pass_carry.specs.declared.Carry.{Carry}
use Rattle.pass_carry.specs.declared.Outcome.{Outcome}

-- bytes since the last cut are at most the bytes taken and below maximum; the signature is that of the 48; places before the log's start are zero;
-- the bytes taken are at most 2^40; and it is open or closed
pub record InOrder (c : Carry) : Type 0 where
  pub begun : c.since ≤ c.taken
  pub below : c.since < c.settings.maximum
  pub signed : c.signature ≡ signature_of c.window
  pub zeros : (i : ℕ) → i + c.taken < 48 → get_or c.window i 0 ≡ 0
  pub short : c.taken ≤ 2 ^ 40
  pub told : c.closed ≤ 1

-- a carry with every part 0
abbrev pub zero_carry : Carry
zero_carry =
    record {
      settings = record { bits = 0; target = 0; minimum = 0; maximum = 0 };
      taken = 0;
      since = 0;
      window = replicate 48 0;
      signature = 0;
      closed = 0;
    }

-- beside a refusal the count is 0 and this carry comes back
pub record HandsBack (c : Carry) (outcome : Outcome) : Type 0 where
  pub uncounted : (answer_number outcome.answer ≡ 0 → ⊥) → answer_count outcome.answer ≡ 0
  pub unaltered : (answer_number outcome.answer ≡ 0 → ⊥) → outcome.carry ≡ c

-- the last 48 of the bytes so far, oldest first, zeros before the log's start
abbrev pub last_bytes : (bytes : List ℕ) → List ℕ
last_bytes bytes = drop (length bytes) (replicate 48 0 ++ bytes)

-- the open carry of a log's bytes so far; the cuts written are those known by then, whatever follows
pub record CarryOf (settings : Settings) (bytes written : List ℕ) (c : Carry) : Type 0 where
  pub under : c.settings ≡ settings
  pub taken : c.taken ≡ length bytes
  pub cuts : written ≡ cuts_up_to (mark settings bytes) settings.minimum settings.maximum (length bytes) 0
  pub since : last_or 0 written + c.since ≡ length bytes
  pub window : c.window ≡ last_bytes bytes
  pub signature : c.signature ≡ signature_of (last_bytes bytes)
  pub open_still : c.closed ≡ 0
