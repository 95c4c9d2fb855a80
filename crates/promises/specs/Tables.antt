-- The numbers of every call in their order, each with when it is answered: document 01's table of numbers and its sentence of orders. The limits stand here as
-- document 01 writes them, so that a wrong one in a definition, with code to match, does not pass.
use Rattle.std.specs.Prelude.{ℕ, zero, suc, ◌+◌, ◌-◌, ◌*◌, ◌/◌, ◌^◌, Bool, not, ◌&&◌, List, [], ◌∷◌, leb, ltb, eqb, length, take}
use Rattle.terms.specs.declared.Settings.{Settings}
use Rattle.terms.specs.declared.Label.{Label}
use Rattle.terms.specs.Labels.{byte_of}
use Rattle.terms.specs.Refusals.{number_of}
use Rattle.terms.specs.Settings.{in_range}
use Rattle.terms.specs.Rows.{Row}
use Rattle.lists.specs.WellFormed.{well_formed, length_of}
use Rattle.words.specs.Runs.{same}
use Rattle.cutting.specs.Marks.{cut_list}
use Rattle.pass_carry.specs.declared.Carry.{Carry}
use Rattle.pass_carry.specs.Carries.{in_order, cuts_in}
use Rattle.board_bays.specs.Segments.{segments, board_fits, bay_fits, segment_fits}
use Rattle.board_bays.specs.Bays.{bay_of, is_done, is_sound}
use Rattle.board_walk.specs.Walk.{board_walk}
use Rattle.board_record.specs.Records.{segment_of}
use Rattle.amending.specs.declared.edits.Edit.{Edit}
use Rattle.amending.specs.Parts.{amended_list}
use Rattle.amending.specs.Answers.{new_cuts_of, edit_fits}
use Rattle.sheet_format.specs.Forms.{cuts_form}
use Rattle.sheet_format.specs.Trailer.{trailer_right}
use Rattle.sheet_format.specs.Sheets.{checked}
use Rattle.sheet_format.specs.Clean.{trailer_bytes, trailer_of, sheet_in, list_in}

-- each row as its number and when it holds
unfoldable pub numbered : List Row → List (ℕ × Bool)
numbered [] = []
numbered (r ∷ rows) = (number_of r.why, r.holds) ∷ numbered rows

-- whole log: 1, 2, 5, and the guard
unfoldable pub cut_log_table : (settings : Settings) (log : List ℕ) (room : ℕ) → List (ℕ × Bool)
cut_log_table settings log room =
    (1, not (in_range settings))
    ∷ (2, ltb (2 ^ 40) (length log))
    ∷ (5, ltb room (length log / settings.minimum + 1))
    ∷ (17, ltb room (length (cut_list settings log)))
    ∷ []

-- fresh carry: 1
unfoldable pub fresh_table : (settings : Settings) → List (ℕ × Bool)
fresh_table settings = (1, not (in_range settings)) ∷ []

-- block: 1, 3, 4, 2, 5, and the guard
unfoldable pub block_table : (c : Carry) (block : List ℕ) (room : ℕ) → List (ℕ × Bool)
block_table c block room =
    (1, not (in_range c.settings))
    ∷ (3, not (in_order c))
    ∷ (4, eqb c.closed 1)
    ∷ (2, ltb (2 ^ 40) (c.taken + length block))
    ∷ (5, ltb room (length block / c.settings.minimum + 1))
    ∷ (17, ltb room (length (cuts_in c block)))
    ∷ []

-- close: 1, 3, 4, 5
unfoldable pub close_table : (c : Carry) (room : ℕ) → List (ℕ × Bool)
close_table c room =
    (1, not (in_range c.settings))
    ∷ (3, not (in_order c))
    ∷ (4, eqb c.closed 1)
    ∷ (5, ltb room 1)
    ∷ []

-- segment, into a bay lent alone or into its bay of a board: 1, 2, 7, 6
unfoldable pub record_table : (settings : Settings) (log : List ℕ) (size width i : ℕ) → List (ℕ × Bool)
record_table settings log size width i =
    (1, not (in_range settings))
    ∷ (2, ltb (2 ^ 40) (length log))
    ∷ (7, not (bay_fits (length log) size width i))
    ∷ (6, not (leb (length (segment_of settings log size i).offsets) (width - 2)))
    ∷ []

unfoldable pub segment_table : (settings : Settings) (log : List ℕ) (size width i numbers : ℕ) → List (ℕ × Bool)
segment_table settings log size width i numbers =
    (1, not (in_range settings))
    ∷ (2, ltb (2 ^ 40) (length log))
    ∷ (7, not (segment_fits (length log) size width i numbers))
    ∷ (6, not (leb (length (segment_of settings log size i).offsets) (width - 2)))
    ∷ []

-- 8 before 9 for each of the k bays from bay i on, and what follows
unfoldable pub eight_nine : (settings : Settings) (n size width : ℕ) (board : List ℕ) (later : List (ℕ × Bool)) (k i : ℕ) → List (ℕ × Bool)
eight_nine settings n size width board later zero i = later
eight_nine settings n size width board later (suc k) i =
    (8, not (is_done (bay_of width i board)))
    ∷ (9, not (is_sound settings n size i (bay_of width i board)))
    ∷ eight_nine settings n size width board later k (suc i)

-- merge: 1, 2, 7, 5, then bays from the lowest; and the guard
unfoldable pub merge_table : (settings : Settings) (n size width : ℕ) (board : List ℕ) (room : ℕ) → List (ℕ × Bool)
merge_table settings n size width board room =
    (1, not (in_range settings))
    ∷ (2, ltb (2 ^ 40) n)
    ∷ (7, not (board_fits n size width (length board)))
    ∷ (5, ltb room (n / settings.minimum + 1))
    ∷ eight_nine settings n size width board ((17, ltb room (length (board_walk settings n size width board))) ∷ []) (segments n size) 0

-- amend: 1, 10, 11, 2, 5, and the guard
unfoldable pub amend_table : (settings : Settings) (old : List ℕ) (edit : Edit) (log : List ℕ) (room : ℕ) → List (ℕ × Bool)
amend_table settings old edit log room =
    (1, not (in_range settings))
    ∷ (10, not (well_formed settings.minimum settings.maximum old))
    ∷ (11, not (edit_fits (length_of old) edit (length log)))
    ∷ (2, ltb (2 ^ 40) (length log))
    ∷ (5, ltb room (length log / settings.minimum + 1))
    ∷ (17, ltb room (length (amended_list (new_cuts_of settings log) old edit)))
    ∷ []

-- write sheet: 1, 10, 16, 5
unfoldable pub write_sheet_table : (settings : Settings) (list : List ℕ) (room : ℕ) → List (ℕ × Bool)
write_sheet_table settings list room =
    (1, not (in_range settings))
    ∷ (10, not (well_formed settings.minimum settings.maximum list))
    ∷ (16, ltb 1_048_576 (length list))
    ∷ (5, ltb room (8 * length list + 32))
    ∷ []

-- read: 12, 14, 13, 10, 15, 5 (room for count)
unfoldable pub read_sheet_table : (bytes : List ℕ) (asked : Label) (room : ℕ) → List (ℕ × Bool)
read_sheet_table bytes asked room =
    (12, not (leb 32 (length bytes) && same (67 ∷ 85 ∷ 84 ∷ 83 ∷ []) (take 4 (trailer_bytes bytes))))
    ∷ (14, not (trailer_right (length bytes - 32) (trailer_of bytes)))
    ∷ (13, not (checked cuts_form (sheet_in bytes)))
    ∷ (10, not (well_formed (trailer_of bytes).settings.minimum (trailer_of bytes).settings.maximum (list_in bytes)))
    ∷ (15, not (eqb (trailer_of bytes).label (byte_of asked)))
    ∷ (5, ltb room (trailer_of bytes).count)
    ∷ []
