-- What taking a block that no row refuses comes to, and its inner functions.
use Rattle.std.specs.Prelude.{ℕ, suc, ◌+◌, ◌-◌, min, max, Bool, ◌&&◌, ◌||◌, List, [], ◌∷◌, ◌++◌, leb, ltb, eqb, length, take, replicate}
use Rattle.terms.specs.declared.Settings.{Settings}
use Rattle.terms.specs.Rows.{verdict, ruled}
use Rattle.rule.specs.Rule.{first_mark}
use Rattle.lists.specs.declared.Made.{Made}
use Rattle.lists.specs.Puts.{none_after}
use Rattle.cutting.specs.Marks.{matches, mark}
use Rattle.lists.specs.Written.{guard}
use Rattle.pass_carry.specs.declared.Carry.{Carry}
use Rattle.pass_carry.specs.declared.Outcome.{Outcome}
use Rattle.pass_carry.specs.Carries.{block_taken, cuts_in}
use Rattle.pass_carry.specs.Outcomes.{refused, wrote}

-- only the guard is left: 17 where a list of so many places is too short for the block's cuts
unfoldable pub taken_outcome : (c : Carry) (block : List ℕ) (room : ℕ) → Outcome
taken_outcome c block room =
    ruled (verdict (guard (cuts_in c block) room ∷ [])) (refused c) (wrote (block_taken c block) (length (cuts_in c block)))

-- the window and, after it, the block's first 48 bytes, with zeros for those that it has not
abbrev pub head_of : (window block : List ℕ) → List ℕ
head_of window block = window ++ (take 48 block ++ replicate (48 - length block) 0)

-- the first offset of a block of n bytes, counted from its start, where the piece that began `since` bytes before it can end;
-- the block's end where it ends in none below. Bytes are the window and the block
unfoldable pub first_cut : (settings : Settings) (since : ℕ) (bytes : List ℕ) (n : ℕ) → ℕ
first_cut settings since bytes n =
    let first = max (settings.minimum - since) 1 in
    let last = min (settings.maximum - since) n in
    first_mark (λ i. mark settings bytes (48 + i)) (suc last - first) first last

-- a piece that long ends where the search stopped, so many bytes of the block being left: below the block's end it stops only where one ends,
-- and at the end the signature there decides
unfoldable pub is_cut : (settings : Settings) (left piece signature : ℕ) → Bool
is_cut settings left piece signature =
    ltb 0 left || (leb settings.minimum piece && (matches settings signature || eqb piece settings.maximum))

-- the cuts before a block: none written, and the last
abbrev pub begun : Carry → Made
begun c = none_after (c.taken - c.since)

-- the carry so many bytes further, with these parts new
abbrev pub advanced_by : (c : Carry) (bytes since : ℕ) (window : List ℕ) (signature : ℕ) → Carry
advanced_by c bytes since window signature =
    record {
      settings = c.settings;
      taken = c.taken + bytes;
      since = since;
      window = window;
      signature = signature;
      closed = c.closed;
    }
