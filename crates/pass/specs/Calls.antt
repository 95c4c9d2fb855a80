-- The answer, the carry and the lent list of each call of the single pass: document 01, "Numbers answered".
use Rattle.std.specs.Prelude.{ℕ, ◌+◌, true, false, not, List, [], ◌∷◌, ◌++◌, ltb, length}
use Rattle.terms.specs.declared.Settings.{Settings}
use Rattle.terms.specs.declared.Refusal.TheVariants.{SettingsOutOfRange, LogTooLong, RoomTooShort, ListFull}
use Rattle.terms.specs.Settings.{in_range, no_settings}
use Rattle.terms.specs.Answers.{longest, room_for}
use Rattle.terms.specs.Rows.{Row, row, verdict, ruled, leaves}
use Rattle.lists.specs.Written.{guard, written_list}
use Rattle.pass_carry.specs.declared.Carry.{Carry}
use Rattle.pass_carry.specs.declared.Outcome.{Outcome}
use Rattle.pass_carry.specs.Carries.{fresh_carry, block_taken, cuts_in}
use Rattle.pass_carry.specs.Outcomes.{refused, wrote, carry_rows}

-- a carry with every part 0
abbrev pub no_carry : Carry
no_carry = fresh_carry no_settings

-- fresh: 1
unfoldable pub fresh_rows : (settings : Settings) → List Row
fresh_rows settings = row SettingsOutOfRange (not (in_range settings)) ∷ []

unfoldable pub fresh_outcome : (settings : Settings) → Outcome
fresh_outcome settings = ruled (verdict (fresh_rows settings)) (refused no_carry) (wrote (fresh_carry settings) 0)

-- block: 1, 3, 4, 2, 5, and the guard
unfoldable pub block_rows : (c : Carry) (block : List ℕ) (room : ℕ) → List Row
block_rows c block room =
    carry_rows c
    ++ (row LogTooLong (ltb longest (c.taken + length block))
    ∷ row RoomTooShort (ltb room (room_for c.settings.minimum (length block)))
    ∷ guard (cuts_in c block) room
    ∷ [])

unfoldable pub block_outcome : (c : Carry) (block : List ℕ) (room : ℕ) → Outcome
block_outcome c block room = ruled (verdict (block_rows c block room)) (refused c) (wrote (block_taken c block) (length (cuts_in c block)))

unfoldable pub block_leaves : (c : Carry) (block list : List ℕ) → List ℕ
block_leaves c block list = leaves (verdict (block_rows c block (length list))) ListFull list (written_list (cuts_in c block) list)

-- the cut that closing adds: the log's end, where bytes have come since the last cut
unfoldable pub closing_cut : Carry → List ℕ
closing_cut c = elim (ltb 0 c.since) [ true ↦ c.taken ∷ [] | false ↦ [] ]

-- closed, the other parts kept
abbrev pub closed_carry : Carry → Carry
closed_carry c =
    record {
      settings = c.settings;
      taken = c.taken;
      since = c.since;
      window = c.window;
      signature = c.signature;
      closed = 1;
    }

-- close: 1, 3, 4, 5
unfoldable pub close_rows : (c : Carry) (room : ℕ) → List Row
close_rows c room = carry_rows c ++ (row RoomTooShort (ltb room 1) ∷ [])

unfoldable pub close_outcome : (c : Carry) (room : ℕ) → Outcome
close_outcome c room = ruled (verdict (close_rows c room)) (refused c) (wrote (closed_carry c) (length (closing_cut c)))

unfoldable pub close_leaves : (c : Carry) (list : List ℕ) → List ℕ
close_leaves c list = ruled (verdict (close_rows c (length list))) (λ _. list) (written_list (closing_cut c) list)
