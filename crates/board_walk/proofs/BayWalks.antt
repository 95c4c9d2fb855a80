-- Walking a bay, all bays and the end of the log, as the code does it.
use Rattle.std.specs.Prelude.{Ok}
use Prim.Native.Nat.{ℕ, zero, suc, ◌+◌, ◌-◌, ◌≤◌, ◌<◌, ◌^◌}
use mathlib.Core.Path.{◌≡◌, refl, sym, ap, ap₂, ◌∙◌, subst}
use mathlib.Core.Bool.{true}
use mathlib.Core.List.{List, [], ◌∷◌, ◌++◌, append-nil}
use native.Mathlib.Numerals.{add-one}
use native.Mathlib.Omega.{arith}
use lib.ListN.{length}
use Rattle.rule.specs.Rule.{last_or, closing}
use Rattle.rule.proofs.Hops.{still_open, already}
use Rattle.terms.specs.declared.Settings.{Settings}
use Rattle.terms.specs.Rows.{verdict}
use Rattle.lists.specs.declared.Made.{Made}
use Rattle.board_bays.specs.Segments.{segments, segment_start, segment_end}
use Rattle.board_bays.specs.Bays.{Record, bay_of, is_done, offset_count, record_in, rises_within}
use Rattle.board_walk.specs.Walk.{forced_up_to, read_as_marks, bay_cuts, bays_cuts, last_cuts, walk, board_walk}
use Rattle.lists.specs.Puts.{Puts, none_after}
use Rattle.board_bays.specs.Judging.{bays_rows}
use Rattle.board_bays.specs.declared.segments.Board.{Board}
use Rattle.terms.specs.declared.Checked.{Checked}
use Rattle.board_walk.proofs.Offsets.{forces}
use Rattle.board_bays.proofs.Ranges.{board_shape, reach, from_reach, to_reach, spans}
use Rattle.board_walk.proofs.Rises.{rises_wider}
use Rattle.board_bays.proofs.Verdicts.{Judged, judged_bay}
use Rattle.lists.proofs.Putting.{puts_are, joined, Underway, begin, more, ended, rest-is}
use Rattle.board_walk.proofs.Lasts.{bay_last}

-- segment 0, and any other
module _ (lo hi c : ℕ) (r : Record) where
  pub first_bay : (i : ℕ) → i ≡ 0 → bay_cuts lo hi i c r ≡ r.offsets
  unfolding bay_cuts
  first_bay i e = rw e

  pub later_bay : (i : ℕ) → (i ≡ 0 → ⊥) → bay_cuts lo hi i c r ≡ read_as_marks lo hi r.marker c r.offsets
  unfolding bay_cuts
  later_bay zero other = absurd (other refl)
  later_bay (suc i) other = refl

-- the end, once the last cuts are forced
module _ (hi n : ℕ) (before forced : Made) (list₀ list : List ℕ) (made : Puts (forced_up_to hi n before.cut) before forced list₀ list) where
  pub end_cut : n ≤ forced.cut → Puts (last_cuts hi n before.cut) before forced list₀ list
  unfolding last_cuts
  end_cut h =
      let shut : closing n (last_or before.cut (forced_up_to hi n before.cut)) ≡ [] = already n _ (rw (← made.last) h) in
      rw (shut, append-nil) made

  pub end_open : forced.cut < n → {after : Made} {list' : List ℕ} → Puts (n ∷ []) forced after list list' → Puts (last_cuts hi n before.cut) before after list₀ list'
  unfolding last_cuts
  end_open h one =
      let open_end : closing n (last_or before.cut (forced_up_to hi n before.cut)) ≡ n ∷ [] = still_open n _ (rw (← made.last) h) in
      rw open_end (joined made one)

-- all bays of a board that was judged
module _ (rule : Checked) (b : Board) (fine : verdict (bays_rows rule.settings b.n b.size b.width b.numbers.now (segments b.n b.size) 0) ≡ Ok tt) (i : ℕ)
    (h : i < segments b.n b.size) where
  judged : Judged rule.settings b.n b.size i (bay_of b.width i b.numbers.now)
  judged = judged_bay rule.settings b.n b.size b.width b.numbers.now fine i h

  -- bay i is ready to be read
  pub ready : {bay : List ℕ} → bay ≡ bay_of b.width i b.numbers.now → (is_done bay ≡ true) × (offset_count bay ≤ length bay - 2)
  ready is-bay = rw is-bay (judged.done, judged.few)

  sized : 0 < b.size
  sized = omega (arith, (board_shape b.n b.size b.width (length b.numbers.now) b.fits).large)

  from_cut : {c : ℕ} → c ≤ reach b.n b.size i → rises_within c (segment_end b.n b.size i) (record_in (bay_of b.width i b.numbers.now)).offsets ≡ true
  from_cut {c} low =
      let start : segment_start b.size i ≡ reach b.n b.size i = from_reach b.n b.size sized i h in
      rises_wider _ (segment_start b.size i) (segment_end b.n b.size i) c (segment_end b.n b.size i) (omega arith) (omega arith) judged.rises

  -- and its offsets to be walked from a cut before it
  pub rising : {bay offsets : List ℕ} → bay ≡ bay_of b.width i b.numbers.now → offsets ≡ (record_in bay).offsets → {c : ℕ} → c ≤ reach b.n b.size i
      → rises_within c (2 ^ 40) offsets ≡ true
  rising is-bay are {c} low =
      let span = spans b.n b.size sized i h in
      rw (are, is-bay) (rises_wider _ c (segment_end b.n b.size i) c (2 ^ 40) (omega arith) (omega (arith, b.bounded)) (from_cut low))

  pub low_after : {c : ℕ} → c ≤ reach b.n b.size i
      → last_or c (bay_cuts rule.settings.minimum rule.settings.maximum i c (record_in (bay_of b.width i b.numbers.now))) ≤ reach b.n b.size (suc i)
  low_after {c} low =
      let start : segment_start b.size i ≡ reach b.n b.size i = from_reach b.n b.size sized i h in
      let span = spans b.n b.size sized i h in
      rw (← to_reach b.n b.size sized i)
      (bay_last rule.settings.minimum rule.settings.maximum i (forces rule) (record_in (bay_of b.width i b.numbers.now)) c (segment_end b.n b.size i) (omega arith) (from_cut low))

-- the bays before bay i are walked
pub record Walking (lo hi n size width : ℕ) (board : List ℕ) (count : ℕ) (made₀ : Made) (list₀ list : List ℕ) (made : Made) (i : ℕ) : Type 0 where
  pub passed : i ≤ count
  pub low : made.cut ≤ reach n size i
  pub way : Underway (bays_cuts lo hi (λ j. record_in (bay_of width j board)) count 0 made₀.cut)
      (bays_cuts lo hi (λ j. record_in (bay_of width j board)) (count - i) i made.cut)
      made₀ made list₀ list

pub start : (lo hi n size width : ℕ) (board : List ℕ) (count : ℕ) (list : List ℕ) {made : Made} → made.count ≡ 0 → made.cut ≡ 0
    → Walking lo hi n size width board count (none_after 0) list list made 0
start lo hi n size width board count list {made} e f =
    let all : count - 0 ≡ count = omega arith in
    record {
      passed = omega arith;
      low = omega (arith, f);
      way = rest-is _ (ap₂ (λ (k c : ℕ). bays_cuts lo hi (λ j. record_in (bay_of width j board)) k 0 c) (sym all) (sym f)) (begin _ list e f);
    }

module _ {lo hi n size width : ℕ} {board : List ℕ} {count : ℕ} {made₀ : Made} {list₀ list : List ℕ} {made : Made} {i : ℕ}
    (w : Walking lo hi n size width board count made₀ list₀ list made i) where
  pub next_bay : i < count → {after : Made} {list' bay : List ℕ} {noted : Record} → bay ≡ bay_of width i board
      → noted.marker ≡ (record_in bay).marker → noted.offsets ≡ (record_in bay).offsets
      → Puts (bay_cuts lo hi i made.cut noted) made after list list'
      → last_or made.cut (bay_cuts lo hi i made.cut (record_in (bay_of width i board))) ≤ reach n size (suc i)
      → Walking lo hi n size width board count made₀ list₀ list' after (i + 1)
  unfolding bays_cuts
  next_bay h is-bay is-marker are walked low =
      let same : _ ≡ record_in (bay_of width i board) = ap₂ (λ (m : ℕ) (o : List ℕ). record { marker = m; offsets = o }) is-marker are ∙ ap record_in is-bay in
      let own = puts_are (ap (bay_cuts lo hi i made.cut) same) walked in
      let left : count - i ≡ suc (count - (i + 1)) = omega arith in
      record {
        passed = omega arith;
        low = rw (own.last, add-one) low;
        way = more (bay_cuts lo hi i made.cut (record_in (bay_of width i board)))
            (rest-is _ (ap (λ (k : ℕ). bays_cuts lo hi (λ j. record_in (bay_of width j board)) k i made.cut) left
            ∙ ap₂ (λ (x y : ℕ). bay_cuts lo hi i made.cut (record_in (bay_of width i board)) ++ bays_cuts lo hi (λ j. record_in (bay_of width j board)) (count - (i + 1)) x y)
            (sym (add-one i)) (sym own.last)) w.way)
            own;
      }

  pub all_walked : count ≤ i → (k : ℕ) → count ≡ k → Puts (bays_cuts lo hi (λ j. record_in (bay_of width j board)) k 0 made₀.cut) made₀ made list₀ list
  unfolding bays_cuts
  all_walked h k e =
      let none : count - i ≡ 0 = omega (arith, w.passed) in
      subst (λ x. Puts (bays_cuts lo hi (λ j. record_in (bay_of width j board)) x 0 made₀.cut) made₀ made list₀ list) e (ended (rest-is _ (rw none) w.way))

-- the bays, then the end: the whole walk
module _ (s : Settings) (n size width : ℕ) (board : List ℕ) {made after : Made} {list₀ list list' : List ℕ}
    (bays : Puts (bays_cuts s.minimum s.maximum (λ j. record_in (bay_of width j board)) (segments n size) 0 0) (none_after 0) made list₀ list)
    (last : Puts (last_cuts s.maximum n made.cut) made after list list') where
  pub walked : Puts (board_walk s n size width board) (none_after 0) after list₀ list'
  unfolding board_walk walk
  walked = joined bays (puts_are (ap (last_cuts s.maximum n) bays.last) last)
