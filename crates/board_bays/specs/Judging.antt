-- The rows that are judged before anything is written: document 01, "Numbers answered".
use Rattle.std.specs.Prelude.{ℕ, zero, suc, Bool, not, List, [], ◌∷◌, ◌++◌, ltb}
use Rattle.terms.specs.declared.Settings.{Settings}
use Rattle.terms.specs.declared.Refusal.TheVariants.{SettingsOutOfRange, LogTooLong, NoSuchSegment, BayNotDone, BayMalformed}
use Rattle.terms.specs.Settings.{in_range}
use Rattle.terms.specs.Answers.{longest}
use Rattle.terms.specs.Rows.{Row, row}
use Rattle.board_bays.specs.Bays.{bay_of, is_done, is_sound}

-- 1, 2 and 7, the last given as what it asks
unfoldable pub call_rows : (settings : Settings) (n : ℕ) (fits : Bool) → List Row
call_rows settings n fits = row SettingsOutOfRange (not (in_range settings)) ∷ row LogTooLong (ltb longest n) ∷ row NoSuchSegment (not fits) ∷ []

-- 8 and 9 for bay i
unfoldable pub bay_rows : (settings : Settings) (n size i : ℕ) (bay : List ℕ) → List Row
bay_rows settings n size i bay = row BayNotDone (not (is_done bay)) ∷ row BayMalformed (not (is_sound settings n size i bay)) ∷ []

-- the same for the k bays from bay i on, from the lowest
unfoldable pub bays_rows : (settings : Settings) (n size width : ℕ) (board : List ℕ) (k i : ℕ) → List Row
bays_rows settings n size width board zero i = []
bays_rows settings n size width board (suc k) i = bay_rows settings n size i (bay_of width i board) ++ bays_rows settings n size width board k (suc i)
