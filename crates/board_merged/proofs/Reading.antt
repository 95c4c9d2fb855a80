-- Reading true records: the offsets of a slow record, read as marks up to the marker, are the segment's cuts; and over all bays the walk's list is the log's.
use Prim.Native.Nat.{ℕ, zero, suc, ◌+◌, ◌-◌, ◌≤◌, ◌<◌}
use mathlib.Core.Path.{◌≡◌, refl, sym, ◌∙◌, subst}
use mathlib.Core.Bool.{Bool}
use mathlib.Core.List.{List, [], ◌∷◌}
use native.Mathlib.Omega.{arith}
use borrow.Author.Tests.{eq-eqb}
use Rattle.laws.proofs.Cases.{by_lt, by_test}
use Rattle.rule.specs.Rule.{last_or, cuts, cuts_up_to, Unmarked}
use Rattle.board_bays.specs.Segments.{segments, segment_start, segment_end}
use Rattle.board_bays.specs.Bays.{Record}
use Rattle.board_record.specs.Records.{slow_record, record_after, is_marker, prepend, segment_record}
use Rattle.board_walk.specs.Walk.{forced_up_to, read_offset, read_as_marks, bay_cuts, walk}
use Rattle.board_record.proofs.After.{piece, at_marker, no_marker, marker_later}
use Rattle.board_record.proofs.Marking.{Marks, none_left, then_mark, marks_in_lem}
use Rattle.board_walk.proofs.Offsets.{forced_none, offset_far, read_switch}
use Rattle.board_bays.proofs.Ranges.{reach, from_reach, to_reach, reach_none, spans}
use Rattle.board_merged.proofs.Following.{Walked, joined, idle, one_cut, one_pass, read_mark}
use Rattle.board_merged.proofs.AllBays.{all_bays}

-- the marker, cut with nothing forced before it: all offsets after it are cuts
read_marker : (lo hi c b : ℕ) (offsets : List ℕ) → forced_up_to hi (b - 1) c ≡ [] → c + lo ≤ b → read_as_marks lo hi b c (b ∷ offsets) ≡ b ∷ offsets
unfolding last_or
read_marker lo hi c b offsets none far =
    let made : read_offset lo hi c b ≡ b ∷ [] = offset_far lo hi c b (rw none far) ∙ rw none in
    read_switch lo hi c b b offsets (rw (made, eq-eqb b b refl)) ∙ rw made

module _ (mark : ℕ → Bool) (lo hi : ℕ) (positive : 0 < lo) (order : lo ≤ hi) (e : ℕ) where
  -- what a walk from the cut d makes of a record
  Read : ℕ → Record → Type 0
  Read d r = (m : ℕ) × Walked mark lo hi d e (read_as_marks lo hi r.marker d r.offsets) m

  -- from a cut at the mark a, or less than minimum before it
  read_after : {a : ℕ} {marks : List ℕ} → a ≤ e → Marks mark e a marks → (c : ℕ) → c ≤ a → a < c + lo → Read c (record_after mark lo hi e a marks)
  unfolding Read record_after read_as_marks prepend
  read_after inside (none_left {a = a} u) c below near = (c, idle mark lo hi positive order c e (omega arith) (λ q x y. u q (omega arith) y))
  read_after {a} inside (then_mark b {l = marks} above within marked u r) c below near =
      by_test (is_marker lo hi a b)
      (λ t. rw (at_marker mark lo hi e a b marks t)
      (let far = piece lo hi a b t in
      let none : forced_up_to hi (b - 1) c ≡ [] = forced_none hi (omega arith) c (b - 1) (omega arith) in
      let w = joined mark lo hi positive order
      (one_cut mark lo hi positive order c b (omega arith) (omega arith) marked (λ q x y. u q (omega arith) y))
      (one_pass mark lo hi positive order b e within) in
      (last_or b (cuts_up_to mark lo hi e b), rw (read_marker lo hi c b (cuts_up_to mark lo hi e b) none (omega arith)) w)))
      (λ t. rw (no_marker mark lo hi e a b marks t)
      (let after = record_after mark lo hi e b marks in
      read_mark mark lo hi positive order after.marker a e c b after.offsets below above within marked (λ q x y. absurd (omega arith)) u
      (marker_later mark lo hi e b (omega arith) (omega arith) r)
      (λ d x y. read_after within r d x y)))

  -- a whole segment above a
  read_slow : {a : ℕ} {marks : List ℕ} → Marks mark e a marks → (c : ℕ) → c ≤ a → a ≤ e → Unmarked mark (c + lo) (suc a)
      → Read c (slow_record mark lo hi e marks)
  unfolding Read slow_record read_as_marks prepend
  read_slow (none_left {a = a} u) c below inside clear =
      (c, idle mark lo hi positive order c e (omega arith) (λ q x y. by_lt a q (λ h. u q h y) (λ h. clear q x (omega arith))))
  read_slow {a} (then_mark b {l = marks} above within marked u r) c below inside clear =
      let after = record_after mark lo hi e b marks in
      read_mark mark lo hi positive order after.marker a e c b after.offsets below above within marked clear u
      (marker_later mark lo hi e b (omega arith) (omega arith) r)
      (λ d x y. read_after within r d x y)

-- over all bays
module _ (mark : ℕ → Bool) (lo hi : ℕ) (positive : 0 < lo) (order : lo ≤ hi) (n size : ℕ) (sized : 0 < size) where
  -- from cut c, with nothing left to cut before segment i, through its bay
  read_bay : (i c : ℕ) → i < segments n size → c ≤ reach n size i → Unmarked mark (c + lo) (suc (reach n size i))
      → (m : ℕ) × Walked mark lo hi c (reach n size (suc i)) (bay_cuts lo hi i c (segment_record mark lo hi n size i)) m
  unfolding bay_cuts segment_record Read
  read_bay zero c h below clear =
      let start : c ≡ 0 = omega (arith, reach_none n size sized) in
      rw (start, to_reach n size sized 0) (_, one_pass mark lo hi positive order 0 (reach n size 1) (omega arith))
  read_bay (suc i) c h below clear =
      let a : ℕ = segment_start size (suc i) in
      let e : ℕ = segment_end n size (suc i) in
      let begins : a ≡ reach n size (suc i) = from_reach n size sized (suc i) h in
      let within : a < e = (spans n size sized (suc i) h).0 in
      rw (← to_reach n size sized (suc i))
      (read_slow mark lo hi positive order e (marks_in_lem mark e a (omega arith)) c (omega arith) (omega arith) (rw begins clear))

  -- every bay holds its segment's record: the walk's list is the log's
  pub merged : (bay : ℕ → Record) → ((i : ℕ) → i < segments n size → bay i ≡ segment_record mark lo hi n size i)
      → walk lo hi bay (segments n size) n ≡ cuts mark lo hi n
  merged bay true-board =
      all_bays mark lo hi positive order n size sized bay
      (λ i c h below clear. subst (λ r. (m : ℕ) × Walked mark lo hi c (reach n size (suc i)) (bay_cuts lo hi i c r) m) (sym (true-board i h)) (read_bay i c h below clear))
