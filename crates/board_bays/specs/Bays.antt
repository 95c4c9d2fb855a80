-- Records and bays: a bay read back, when it is done, and when it is malformed. Document 01, "Segments and the board".
use Rattle.std.specs.Prelude.{ℕ, zero, suc, ◌-◌, ◌*◌, Bool, true, false, ◌&&◌, ◌||◌, ◌≡◌, List, [], ◌∷◌, ◌++◌, leb, ltb, eqb, length, get_or, take, drop}
use Rattle.terms.specs.declared.Settings.{Settings}
use Rattle.lists.specs.WellFormed.{step_fits}
use Rattle.board_bays.specs.Segments.{segment_start, segment_end}

-- the marker, or 0 for none, and the offsets
pub record Record : Type 0 where
  pub marker : ℕ
  pub offsets : List ℕ

-- a record as a bay begins with it: 1 + the number of offsets, the marker, the offsets
unfoldable pub entries : (r : Record) → List ℕ
entries r = suc (length r.offsets) ∷ r.marker ∷ r.offsets

-- bay i of a board of bays of so many numbers
unfoldable pub bay_of : (width i : ℕ) (board : List ℕ) → List ℕ
bay_of width i board = take width (drop (i * width) board)

-- entry 0 is 0 for not done
unfoldable pub is_done : (bay : List ℕ) → Bool
is_done bay = ltb 0 (get_or bay 0 0)

-- else 1 + the number of offsets
unfoldable pub offset_count : (bay : List ℕ) → ℕ
offset_count bay = get_or bay 0 0 - 1

-- what stands in a bay that is done
unfoldable pub record_in : (bay : List ℕ) → Record
record_in bay = record { marker = get_or bay 1 0; offsets = take (offset_count bay) (drop 2 bay) }

-- the offsets strictly rise from above a, and none is past e
unfoldable pub rises_within : (a e : ℕ) (offsets : List ℕ) → Bool
rises_within a e [] = true
rises_within a e (p ∷ offsets) = ltb a p && (leb p e && rises_within p e offsets)

-- p is among the offsets
unfoldable pub is_listed : (p : ℕ) (offsets : List ℕ) → Bool
is_listed p [] = false
is_listed p (q ∷ offsets) = elim (eqb q p) [ true ↦ true | false ↦ is_listed p offsets ]

-- the offsets that follow p among them
unfoldable pub followers : (p : ℕ) (offsets : List ℕ) → List ℕ
followers p [] = []
followers p (q ∷ offsets) = elim (eqb q p) [ true ↦ offsets | false ↦ followers p offsets ]

-- every step from c on is between minimum and maximum
unfoldable pub steps_within : (minimum maximum c : ℕ) (offsets : List ℕ) → Bool
steps_within minimum maximum c [] = true
steps_within minimum maximum c (p ∷ offsets) = step_fits minimum maximum false c p && steps_within minimum maximum p offsets

-- the marker is 0 or listed; steps from the marker on are between minimum and maximum
unfoldable pub from_marker : (minimum maximum marker : ℕ) (offsets : List ℕ) → Bool
from_marker minimum maximum marker offsets =
    (eqb marker 0 || is_listed marker offsets)
    && steps_within minimum maximum marker (followers marker offsets)

-- in segment 0 the marker is 0, and steps from 0 on are between minimum and maximum
unfoldable pub marker_fits : (minimum maximum i : ℕ) (r : Record) → Bool
marker_fits minimum maximum zero r = eqb r.marker 0 && steps_within minimum maximum 0 r.offsets
marker_fits minimum maximum (suc i) r = from_marker minimum maximum r.marker r.offsets

-- bay i, if done, is not malformed: its number is at most R - 2, its offsets strictly rise within the segment, and its marker and steps fit
unfoldable pub is_sound : (settings : Settings) (n size i : ℕ) (bay : List ℕ) → Bool
is_sound settings n size i bay =
    let r = record_in bay in
    leb (offset_count bay) (length bay - 2)
    && (rises_within (segment_start size i) (segment_end n size i) r.offsets
    && marker_fits settings.minimum settings.maximum i r)

-- a bay that begins with a record
pub record Holds (bay : List ℕ) (r : Record) : Type 0 where
  pub rest : List ℕ
  pub begins : bay ≡ entries r ++ rest
