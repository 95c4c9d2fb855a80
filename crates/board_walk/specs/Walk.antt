-- Merging: the walk over the bays, from cut 0. Document 01, "Segments and the board".
use Rattle.std.specs.Prelude.{ℕ, zero, suc, ◌+◌, ◌-◌, true, false, ◌&&◌, List, [], ◌∷◌, ◌++◌, leb, eqb}
use Rattle.rule.specs.Rule.{hops, last_or, closing}
use Rattle.board_bays.specs.Bays.{Record, bay_of, record_in}
use Rattle.terms.specs.declared.Settings.{Settings}
use Rattle.board_bays.specs.Segments.{segments}

-- the cuts that maximum forces after the cut c, up to e, where there is no mark
unfoldable pub forced_up_to : (maximum e c : ℕ) → List ℕ
forced_up_to maximum e c = hops (λ (x : ℕ). x + maximum) e (e - c) c

-- from the cut c on, one offset read as a mark under the one-pass rule: cuts are forced below it, and it is a cut itself if it is far enough
unfoldable pub read_offset : (minimum maximum c p : ℕ) → List ℕ
read_offset minimum maximum c p =
    let below = forced_up_to maximum (p - 1) c in
    below ++ elim (leb (last_or c below + minimum) p) [ true ↦ p ∷ [] | false ↦ [] ]

-- offsets read as marks until a cut made equals the marker; then the later offsets are cuts
unfoldable pub read_as_marks : (minimum maximum marker c : ℕ) (offsets : List ℕ) → List ℕ
read_as_marks minimum maximum marker c [] = []
read_as_marks minimum maximum marker c (p ∷ offsets) =
    let made = read_offset minimum maximum c p in
    let cut = last_or c made in
    made
    ++ elim (eqb cut p && eqb p marker)
    [ true ↦ offsets | false ↦ read_as_marks minimum maximum marker cut offsets ]

-- the cuts made in bay i from the cut c on: segment 0's offsets are cuts
unfoldable pub bay_cuts : (minimum maximum i c : ℕ) (r : Record) → List ℕ
bay_cuts minimum maximum zero c r = r.offsets
bay_cuts minimum maximum (suc i) c r = read_as_marks minimum maximum r.marker c r.offsets

-- from the last bay's last cut c on: at the end n is added as the rule says
unfoldable pub last_cuts : (maximum n c : ℕ) → List ℕ
last_cuts maximum n c = let rest = forced_up_to maximum n c in rest ++ closing n (last_or c rest)

module _ (minimum maximum : ℕ) (bay : ℕ → Record) where
  -- the cuts made in the k bays from bay i on
  unfoldable pub bays_cuts : (k i c : ℕ) → List ℕ
  bays_cuts zero i c = []
  bays_cuts (suc k) i c = let made = bay_cuts minimum maximum i c (bay i) in made ++ bays_cuts k (suc i) (last_or c made)

  -- the list of a log of n bytes and k segments
  unfoldable pub walk : (k n : ℕ) → List ℕ
  walk k n = let made = bays_cuts k 0 0 in made ++ last_cuts maximum n (last_or 0 made)

-- the walk over a board's bays
unfoldable pub board_walk : (settings : Settings) (n size width : ℕ) (board : List ℕ) → List ℕ
board_walk settings n size width board = walk settings.minimum settings.maximum (λ i. record_in (bay_of width i board)) (segments n size) n
