-- Merging any board that was judged, true or not: the list is the one-pass rule's over the offsets that the board lists.
use Rattle.std.specs.Prelude.{Ok}
use Prim.Native.Nat.{ℕ, zero, suc, ◌+◌, ◌-◌, ◌/◌, ◌^◌, ◌≤◌, ◌<◌}
use mathlib.Core.Path.{◌≡◌, refl, sym, ap, ◌∙◌, subst}
use mathlib.Core.Bool.{Bool, true, false, ◌&&◌, ◌||◌}
use mathlib.Core.List.{List, [], ◌∷◌}
use native.Mathlib.Nat.{zero-mul, suc-mul, sub-zero, div-eq_of_lt-le}
use native.Mathlib.Omega.{arith}
use lib.Dec.{leb, ltb, eqb}
use borrow.Author.Tests.{leb-true, ltb-true, eqb-true, eq-eqb, ne_eqb}
use Rattle.laws.proofs.Cases.{by_lt, by_test, both_true}
use lib.ListN.{length}
use Rattle.terms.specs.Answers.{room_for}
use Rattle.lists.specs.WellFormed.{well_formed, length_of}
use Rattle.lists.proofs.Reaching.{Reaches, fits, reaches_last}
use Rattle.lists.proofs.Roomy.{reaches_room}
use Rattle.cutting.proofs.Reaching.{cuts_reach}
use Rattle.rule.specs.Rule.{last_or, cuts, Unmarked}
use Rattle.rule.proofs.Hops.{last_is}
use Rattle.lists.specs.WellFormed.{step_fits}
use Rattle.terms.specs.declared.Settings.{Settings}
use Rattle.terms.specs.Rows.{verdict}
use Rattle.board_bays.specs.Segments.{segments, segment_start, segment_end}
use Rattle.board_bays.specs.Bays.{Record, bay_of, record_in, rises_within, is_listed, followers, steps_within, from_marker, marker_fits}
use Rattle.board_bays.specs.Judging.{bays_rows}
use Rattle.board_bays.proofs.Ranges.{reach, from_reach, to_reach, reach_none, spans}
use Rattle.board_bays.proofs.Verdicts.{Judged, judged_bay}
use Rattle.board_walk.specs.Walk.{read_offset, read_as_marks, bay_cuts, board_walk}
use Rattle.board_merged.specs.Listed.{listed_on}
use Rattle.board_walk.proofs.Rises.{risen}
use Rattle.board_walk.proofs.Offsets.{read_on, read_switch}
use Rattle.board_record.proofs.Marking.{Marks, none_left, then_mark}
use Rattle.board_merged.proofs.Following.{Walked, joined, to_last, idle, one_cut, read-offset}
use Rattle.board_merged.proofs.AllBays.{all_bays}

-- offsets that rise are the marks of their segment, where nothing else is
unlisted : (q : ℕ) (l : List ℕ) (a e : ℕ) → q ≤ a → rises_within a e l ≡ true → is_listed q l ≡ false
unfolding is_listed
unlisted q [] a e low t = refl
unlisted q (p ∷ l) a e low t =
    let r = risen a e p l t in rw (ne_eqb p q (λ is. omega arith), is_listed) (unlisted q l p e (omega arith) r.2)

rising_marks : (mark : ℕ → Bool) (l : List ℕ) (a e : ℕ) → rises_within a e l ≡ true → ((q : ℕ) → a < q → q ≤ e → mark q ≡ is_listed q l) → Marks mark e a l
unfolding is_listed
rising_marks mark [] a e t same = none_left (λ q lo hi. same q lo (omega arith))
rising_marks mark (p ∷ l) a e t same =
    let r = risen a e p l t in
    let above : a < p = r.0 in
    let inside : p ≤ e = r.1 in
    then_mark p above inside (same p above inside ∙ rw (eq-eqb p p refl, is_listed))
    (λ q lo hi. same q lo (omega arith) ∙ rw (ne_eqb p q (λ is. omega arith), is_listed) (unlisted q l p e (omega arith) r.2))
    (rising_marks mark l p e r.2 (λ q lo hi. same q (omega arith) hi ∙ rw (ne_eqb p q (λ is. omega arith), is_listed)))

-- the first step of offsets whose steps fit, and the others
one_step : (lo hi p b : ℕ) → step_fits lo hi false p b ≡ true → (p + lo ≤ b) × (b ≤ p + hi)
unfolding step_fits
one_step lo hi p b t =
    let low : (ltb p b ≡ true) × (leb (b - p) hi && (false || leb lo (b - p)) ≡ true) = both_true t in
    let near : (leb (b - p) hi ≡ true) × (leb lo (b - p) ≡ true) = both_true low.1 in
    let up : p < b = ltb-true p b low.0 in
    (omega (arith, leb-true lo (b - p) near.1), omega (arith, leb-true (b - p) hi near.0))

first_step : (lo hi p b : ℕ) (l : List ℕ) → steps_within lo hi p (b ∷ l) ≡ true → (p + lo ≤ b) × (b ≤ p + hi) × (steps_within lo hi b l ≡ true)
unfolding steps_within
first_step lo hi p b l t =
    let both = both_true {a = step_fits lo hi false p b} t in
    let one = one_step lo hi p b both.0 in
    (one.0, one.1, both.1)

module _ (mark : ℕ → Bool) (lo hi : ℕ) (positive : 0 < lo) (order : lo ≤ hi) (e : ℕ) where
  -- offsets that are cuts, each a step from minimum to maximum after the one before: the rule makes the same
  taken : {p : ℕ} {l : List ℕ} → p ≤ e → Marks mark e p l → steps_within lo hi p l ≡ true → Walked mark lo hi p e l (last_or p l)
  unfolding last_or
  taken {p} inside (none_left u) t = idle mark lo hi positive order p e inside (λ q x y. u q (omega arith) y)
  taken {p} inside (then_mark b {l = l} above within m u r) t =
      let (far, close, rest) = first_step lo hi p b l t in
      joined mark lo hi positive order (one_cut mark lo hi positive order p b far close m (λ q x y. u q (omega arith) y)) (taken within r rest)

  none_follow : (p : ℕ) {a : ℕ} {l : List ℕ} → p ≤ a → Marks mark e a l → followers p l ≡ []
  unfolding followers
  none_follow p low (none_left u) = refl
  none_follow p low (then_mark b above within m u r) = rw (ne_eqb b p (λ is. omega arith), followers) (none_follow p (omega arith) r)

  -- offsets read as marks until a cut made equals the marker, and then taken as cuts
  read : (marker : ℕ) {a : ℕ} {l : List ℕ} → Marks mark e a l → (c : ℕ) → c ≤ a → a ≤ e → Unmarked mark (c + lo) (suc a)
      → steps_within lo hi marker (followers marker l) ≡ true → (m : ℕ) × Walked mark lo hi c e (read_as_marks lo hi marker c l) m
  unfolding read_as_marks
  read marker (none_left {a = a} u) c below inside clear fit =
      (c, idle mark lo hi positive order c e (omega arith) (λ q x y. by_lt a q (λ h. u q h y) (λ h. clear q x (omega arith))))
  read marker {a} (then_mark b {l = l} above within marked u r) c below inside clear fit =
      let free : Unmarked mark (c + lo) b = λ q x y. by_lt a q (λ h. u q h y) (λ h. clear q x (omega arith)) in
      let o = read-offset mark lo hi positive order c b (omega arith) marked free in
      let w = to_last mark lo hi positive order o.1 in
      let at : last_or c (read_offset lo hi c b) ≡ o.0 = last_is o.1.hopped in
      by_test (eqb (last_or c (read_offset lo hi c b)) b && eqb b marker)
      (λ s. let both = both_true s in
      let cut : last_or c (read_offset lo hi c b) ≡ b = eqb-true _ _ both.0 in
      let steps : steps_within lo hi b l ≡ true = switched b l fit both.1 in
      (last_or b l, rw (read_switch lo hi c b marker l s) (joined mark lo hi positive order (subst (λ x. Walked mark lo hi c b (read_offset lo hi c b) x) cut w) (taken within r steps))))
      (λ s. let d : ℕ = last_or c (read_offset lo hi c b) in
      let after = read marker r d w.reached within (λ q x y. absurd (omega (arith, o.2, at))) (later b l fit r) in
      (after.0, rw (read_on lo hi c b marker l s) (joined mark lo hi positive order w after.1)))
    where
      switched : (b : ℕ) (l : List ℕ) → steps_within lo hi marker (followers marker (b ∷ l)) ≡ true → eqb b marker ≡ true → steps_within lo hi b l ≡ true
      switched b l fit is =
          let same : b ≡ marker = eqb-true _ _ is in
          let after : followers marker (b ∷ l) ≡ l = unfold followers in rw (is, followers) in
          rw (same, ← after) fit

      later : (b : ℕ) (l : List ℕ) → steps_within lo hi marker (followers marker (b ∷ l)) ≡ true → Marks mark e b l → steps_within lo hi marker (followers marker l) ≡ true
      later b l fit r =
          by_test (eqb b marker)
          (λ is. let same : marker ≡ b = sym (eqb-true _ _ is) in rw (none_follow marker (omega arith) r) (unfold steps_within in refl))
          (λ other. let after : followers marker (b ∷ l) ≡ followers marker l = unfold followers in rw (other, followers) in rw (← after) fit)

module _ (s : Settings) (positive : 0 < s.minimum) (order : s.minimum ≤ s.maximum) (n size width : ℕ) (board : List ℕ) (sized : 0 < size)
    (fine : verdict (bays_rows s n size width board (segments n size) 0) ≡ Ok tt) where
  abbrev bay : ℕ → Record
  bay i = record_in (bay_of width i board)

  abbrev marks : ℕ → Bool
  marks = listed_on size width board

  judged : (i : ℕ) → i < segments n size → Judged s n size i (bay_of width i board)
  judged = judged_bay s n size width board fine

  own : (i q : ℕ) → segment_start size i < q → q ≤ segment_end n size i → marks q ≡ is_listed q (bay i).offsets
  unfolding listed_on segment_start segment_end
  own i q lo hi =
      let place : (q - 1) / size ≡ i = div-eq_of_lt-le size (omega arith) (omega (arith, suc-mul i size)) in ap (λ j. is_listed q (bay j).offsets) place

  bay_marks : (i : ℕ) → i < segments n size → Marks marks (segment_end n size i) (segment_start size i) (bay i).offsets
  bay_marks i h = rising_marks marks (bay i).offsets (segment_start size i) (segment_end n size i) (judged i h).rises (own i)

  read_bay : (i c : ℕ) → i < segments n size → c ≤ reach n size i → Unmarked marks (c + s.minimum) (suc (reach n size i))
      → (m : ℕ) × Walked marks s.minimum s.maximum c (reach n size (suc i)) (bay_cuts s.minimum s.maximum i c (bay i)) m
  unfolding bay_cuts
  read_bay zero c h below clear =
      let start : c ≡ 0 = omega (arith, reach_none n size sized) in
      let first : segment_start size 0 ≡ 0 = unfold segment_start in zero-mul size in
      let both : (eqb (bay 0).marker 0 ≡ true) × (steps_within s.minimum s.maximum 0 (bay 0).offsets ≡ true) = both_true (unfold marker_fits in (judged 0 h).fits) in
      rw (start, ← to_reach n size sized 0)
      (_, taken marks s.minimum s.maximum positive order (segment_end n size 0) (omega arith) (rw first at (bay_marks 0 h)) both.1)
  read_bay (suc i) c h below clear =
      let begins : segment_start size (suc i) ≡ reach n size (suc i) = from_reach n size sized (suc i) h in
      let within = spans n size sized (suc i) h in
      let both : (eqb (bay (suc i)).marker 0 || is_listed (bay (suc i)).marker (bay (suc i)).offsets ≡ true)
      × (steps_within s.minimum s.maximum (bay (suc i)).marker (followers (bay (suc i)).marker (bay (suc i)).offsets) ≡ true) =
      both_true (unfold marker_fits from_marker in (judged (suc i) h).fits) in
      rw (← to_reach n size sized (suc i))
      (read marks s.minimum s.maximum positive order (segment_end n size (suc i)) (bay (suc i)).marker (bay_marks (suc i) h) c (omega arith) (omega arith) (rw begins clear) both.1)

  -- the walk over any board that is accepted is the one-pass rule over the offsets it lists
  pub walk_by_the_rule : board_walk s n size width board ≡ cuts marks s.minimum s.maximum n
  unfolding board_walk
  walk_by_the_rule = all_bays marks s.minimum s.maximum positive order n size sized bay read_bay

  -- so that merging writes a well-formed list that ends at n, and the room that was tested is enough for it
  walk_reaches : Reaches s.minimum s.maximum n 0 (board_walk s n size width board)
  walk_reaches = rw walk_by_the_rule (cuts_reach marks s.minimum s.maximum n positive order 0 (omega arith))

  pub merged_well_formed : n ≤ 2 ^ 40
      → (well_formed s.minimum s.maximum (board_walk s n size width board) ≡ true) × (length_of (board_walk s n size width board) ≡ n)
  unfolding well_formed length_of
  merged_well_formed short = (fits s.minimum s.maximum short walk_reaches, reaches_last walk_reaches)

  pub merged_fits : length (board_walk s n size width board) ≤ room_for s.minimum n
  merged_fits = rw (sub-zero n) at (reaches_room positive walk_reaches)
