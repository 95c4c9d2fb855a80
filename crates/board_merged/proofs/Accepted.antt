-- A true board is never refused by 8 or 9: a bay that holds its segment's record is done and not malformed.
use Rattle.std.specs.Prelude.{Ok}
use Prim.Native.Nat.{ℕ, zero, suc, ◌+◌, ◌-◌, ◌≤◌, ◌<◌}
use mathlib.Core.Path.{◌≡◌, refl, ap, ◌∙◌}
use mathlib.Core.Bool.{Bool, true, false, not}
use mathlib.Core.List.{List, ◌∷◌}
use native.Mathlib.Nat.{zero-mul}
use native.Mathlib.Omega.{arith}
use lib.Dec.{eqb}
use lib.ListN.{length}
use borrow.Author.Tests.{le-leb, lt-ltb, eq-eqb}
use Rattle.laws.proofs.Cases.{by_test, or-true}
use Rattle.rule.specs.Rule.{hop, cuts_up_to}
use Rattle.rule.proofs.Hops.{UpTo, past, leap, up_to, hop_rises, hop_long}
use Rattle.lists.specs.WellFormed.{step_fits}
use Rattle.terms.specs.declared.Settings.{Settings}
use Rattle.terms.specs.Rows.{verdict}
use Rattle.terms.proofs.Verdicts.{top, past, reached}
use Rattle.cutting.specs.Marks.{mark}
use Rattle.board_bays.specs.Segments.{segments, segment_start, segment_end}
use Rattle.board_bays.specs.Bays.{Record, bay_of, is_sound, offset_count, rises_within, is_listed, followers, steps_within, from_marker, marker_fits, Holds}
use Rattle.board_record.specs.Records.{slow_record, record_after, is_marker, prepend, segment_record, segment_of}
use Rattle.board_bays.specs.Judging.{bay_rows, bays_rows}
use Rattle.board_record.proofs.Marking.{Marks, none_left, then_mark, marks_in_lem}
use Rattle.board_bays.proofs.Ranges.{spans}
use Rattle.board_merged.proofs.ReadBack.{read_back, room, done}
use Rattle.board_record.proofs.After.{at_marker, no_marker, marker_later}

rises_on : (a e p : ℕ) (l : List ℕ) → a < p → p ≤ e → rises_within a e (p ∷ l) ≡ rises_within p e l
unfolding rises_within
rises_on a e p l above inside = rw (lt-ltb a p above, le-leb p e inside, rises_within)

module _ (mark : ℕ → Bool) (lo hi : ℕ) (positive : 0 < lo) (order : lo ≤ hi) (e : ℕ) where
  rises_hops : {c m : ℕ} {l : List ℕ} → UpTo (hop mark lo hi) e c l m → rises_within c e l ≡ true
  unfolding rises_within
  rises_hops (past b) = refl
  rises_hops (leap {c = c} {l = l} b r) = rises_on c e (hop mark lo hi c) l (hop_rises mark lo hi positive order c) b ∙ rises_hops r

  steps_hops : {c m : ℕ} {l : List ℕ} → UpTo (hop mark lo hi) e c l m → steps_within lo hi c l ≡ true
  unfolding steps_within step_fits
  steps_hops (past b) = refl
  steps_hops (leap {c = c} {l = l} b r) =
      let long = hop_long mark lo hi c order in
      rw (lt-ltb c (hop mark lo hi c) (omega arith), le-leb (hop mark lo hi c - c) hi (omega arith), le-leb lo (hop mark lo hi c - c) (omega arith), steps_within)
      (steps_hops r)

  rises_cuts : (c : ℕ) → rises_within c e (cuts_up_to mark lo hi e c) ≡ true
  unfolding cuts_up_to
  rises_cuts c = rises_hops (up_to (hop mark lo hi) e (hop_rises mark lo hi positive order) c)

  steps_cuts : (c : ℕ) → steps_within lo hi c (cuts_up_to mark lo hi e c) ≡ true
  unfolding cuts_up_to
  steps_cuts c = steps_hops (up_to (hop mark lo hi) e (hop_rises mark lo hi positive order) c)

  rises_after : {a : ℕ} {marks : List ℕ} → Marks mark e a marks → rises_within a e (record_after mark lo hi e a marks).offsets ≡ true
  unfolding rises_within record_after prepend
  rises_after (none_left u) = refl
  rises_after {a} (then_mark b {l = marks} above inside m u r) =
      by_test (is_marker lo hi a b)
      (λ t. rw (at_marker mark lo hi e a b marks t) (rises_on a e b (cuts_up_to mark lo hi e b) above inside ∙ rises_cuts b))
      (λ t. rw (no_marker mark lo hi e a b marks t) (rises_on a e b (record_after mark lo hi e b marks).offsets above inside ∙ rises_after r))

  rises_slow : {a : ℕ} {marks : List ℕ} → Marks mark e a marks → rises_within a e (slow_record mark lo hi e marks).offsets ≡ true
  unfolding rises_within slow_record prepend
  rises_slow (none_left u) = refl
  rises_slow {a} (then_mark b {l = marks} above inside m u r) = rises_on a e b (record_after mark lo hi e b marks).offsets above inside ∙ rises_after r

  -- the marker of a record, and the steps from it on
  fits : Record → Bool
  fits r = from_marker lo hi r.marker r.offsets

  -- an offset that is not the marker, before the others
  fits_on : (b : ℕ) (r : Record) → eqb b r.marker ≡ false → fits (prepend b r) ≡ fits r
  unfolding fits from_marker prepend is_listed followers
  fits_on b r other = rw (other, is_listed, followers)

  -- the marker alone first, and the cuts after it
  fits_from : (b : ℕ) → fits (record { marker = b; offsets = b ∷ cuts_up_to mark lo hi e b }) ≡ true
  unfolding fits from_marker is_listed followers
  fits_from b = rw (eq-eqb b b refl, is_listed, followers, or-true) (steps_cuts b)

  fits_after : {a : ℕ} {marks : List ℕ} → Marks mark e a marks → fits (record_after mark lo hi e a marks) ≡ true
  unfolding fits from_marker record_after is_listed followers steps_within
  fits_after (none_left u) = refl
  fits_after {a} (then_mark b {l = marks} above inside m u r) =
      by_test (is_marker lo hi a b)
      (λ t. ap fits (at_marker mark lo hi e a b marks t) ∙ fits_from b)
      (λ t. ap fits (no_marker mark lo hi e a b marks t)
      ∙ (fits_on b (record_after mark lo hi e b marks) (marker_later mark lo hi e b (omega arith) (omega arith) r) ∙ fits_after r))

  fits_slow : {a : ℕ} {marks : List ℕ} → Marks mark e a marks → fits (slow_record mark lo hi e marks) ≡ true
  unfolding fits from_marker slow_record is_listed followers steps_within
  fits_slow (none_left u) = refl
  fits_slow (then_mark b {l = marks} above inside m u r) =
      fits_on b (record_after mark lo hi e b marks) (marker_later mark lo hi e b (omega arith) (omega arith) r) ∙ fits_after r

module _ (mark : ℕ → Bool) (lo hi : ℕ) (positive : 0 < lo) (order : lo ≤ hi) (n size : ℕ) (sized : 0 < size) where
  rises_record : (i : ℕ) → i < segments n size
      → rises_within (segment_start size i) (segment_end n size i) (segment_record mark lo hi n size i).offsets ≡ true
  unfolding segment_record
  rises_record zero h =
      let start : segment_start size 0 ≡ 0 = unfold segment_start in zero-mul size in
      rw start (rises_cuts mark lo hi positive order (segment_end n size 0) 0)
  rises_record (suc i) h =
      let e : ℕ = segment_end n size (suc i) in
      let span = spans n size sized (suc i) h in
      rises_slow mark lo hi positive order e (marks_in_lem mark e (segment_start size (suc i)) (omega arith))

  fits_record : (i : ℕ) → i < segments n size → marker_fits lo hi i (segment_record mark lo hi n size i) ≡ true
  unfolding segment_record marker_fits
  fits_record zero h = steps_cuts mark lo hi positive order (segment_end n size 0) 0
  fits_record (suc i) h =
      let e : ℕ = segment_end n size (suc i) in
      let span = spans n size sized (suc i) h in
      unfold fits in fits_slow mark lo hi positive order e (marks_in_lem mark e (segment_start size (suc i)) (omega arith))

-- a board whose bays hold their segments' records is accepted
module _ (s : Settings) (positive : 0 < s.minimum) (order : s.minimum ≤ s.maximum) (log : List ℕ) (size : ℕ) (sized : 0 < size) where
  sound : (i : ℕ) → i < segments (length log) size → (bay : List ℕ) → Holds bay (segment_of s log size i) → is_sound s (length log) size i bay ≡ true
  unfolding is_sound
  sound i h bay held =
      let r : Record = segment_of s log size i in
      rw (
        read_back bay r held,
        le-leb (offset_count bay) (length bay - 2) (room bay r held),
        rises_record (mark s log) s.minimum s.maximum positive order (length log) size sized i h,
        fits_record (mark s log) s.minimum s.maximum positive order (length log) size sized i h,
      )

  module _ (width : ℕ) (board : List ℕ) (held : (i : ℕ) → i < segments (length log) size → Holds (bay_of width i board) (segment_of s log size i)) where
    from_bay : (k i : ℕ) → i + k ≡ segments (length log) size → verdict (bays_rows s (length log) size width board k i) ≡ Ok tt
    unfolding bays_rows bay_rows
    from_bay zero i count = unfold verdict in refl
    from_bay (suc k) i count =
        let here : i < segments (length log) size = omega arith in
        let bay : List ℕ = bay_of width i board in
        reached (past (ap not (done bay _ (held i here))) (past (ap not (sound i here bay (held i here))) top))
        ∙ from_bay k (suc i) (omega arith)

    pub true_bays_accepted : verdict (bays_rows s (length log) size width board (segments (length log) size) 0) ≡ Ok tt
    true_bays_accepted = from_bay (segments (length log) size) 0 (omega arith)
