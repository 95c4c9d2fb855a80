-- Segment calls in any order: a call changes no other bay, so that a permutation of the calls gives the same board, and what all of them leave is a true board.
use Rattle.std.specs.Prelude.{Ok}
use Prim.Native.Nat.{ℕ, ◌+◌, ◌-◌, ◌*◌, ◌≤◌, ◌<◌}
use mathlib.Core.Path.{◌≡◌, refl, sym, ap, ap₂, ◌∙◌}
use mathlib.Core.Bool.{true}
use mathlib.Core.List.{List, [], ◌∷◌, append_assoc, Permᴰ}
use mathlib.Core.List.{Memᴰ}
use mathlib.Core.Logic.{◌⊎◌, inl, inr}
use native.Mathlib.Nat.{mul-le-mul_right, suc-mul}
use native.Mathlib.Omega.{arith}
use lib.Dec.{leb, eqb}
use lib.ListN.{length, take, drop, length-take}
use lib.Seq.{sets, length-sets, sets-eq}
use borrow.Author.Tests.{leb-true, leb-false, ltb-true, eqb-true, eqb-false}
use Rattle.laws.specs.Over.{over}
use Rattle.laws.proofs.Cases.{by_lt, by_test, both_true}
use Rattle.laws.proofs.Writing.{length_over}
use Rattle.terms.specs.declared.Settings.{Settings}
use Rattle.terms.specs.Rows.{Verdict}
use Rattle.terms.specs.declared.Refusal.TheVariants.{RecordTooLong}
use Rattle.terms.specs.Rows.{verdict, ruled}
use Rattle.terms.proofs.Verdicts.{by_verdict, left_by}
use Rattle.board_bays.specs.Segments.{segments, segment_fits}
use Rattle.board_bays.specs.Bays.{Record, entries, bay_of, Holds}
use Rattle.board_record.specs.Records.{segment_of}
use Rattle.board_bays.specs.Judging.{call_rows}
use Rattle.board.specs.Recording.{record_fits, recorded, with_bay, segment_rows, segment_leaves, record_all}
use Rattle.board_bays.proofs.Verdicts.{passed, plain_call}
use Rattle.board_bays.proofs.Ranges.{bay_inside, length_bay, BoardShape, board_shape}
use Rattle.laws.proofs.Sets.{sets_commute, part_same, part_other}

by_same : {C : Type 0} (i j : ℕ) → (i ≡ j → C) → ((i ≡ j → ⊥) → C) → C
by_same i j f g = by_test (eqb i j) (λ t. f (eqb-true i j t)) (λ t. g (eqb-false i j t))

-- a record leaves its bay as long as it was, and where it fits it is there
length_recorded : (r : Record) (bay : List ℕ) → 2 ≤ length bay → length (recorded r bay) ≡ length bay
unfolding recorded record_fits entries
length_recorded r bay h =
    by_test (leb (length r.offsets) (length bay - 2))
    (λ t. rw (t, recorded) (length_over (entries r) bay (omega (arith, leb-true (length r.offsets) (length bay - 2) t))))
    (λ t. rw (t, recorded) (rw length-take (omega (arith, leb-false (length r.offsets) (length bay - 2) t))))

recorded-holds : (r : Record) (bay : List ℕ) → record_fits r (length bay) ≡ true → Holds (recorded r bay) r
unfolding recorded over
recorded-holds r bay t = record { rest = drop (length (entries r)) bay; begins = rw (t, recorded) }

-- what so many entries of two bays take up does not meet
bays_apart : (width i j : ℕ) {a b : ℕ} → a ≤ width → b ≤ width → (i ≡ j → ⊥) → (i * width + a ≤ j * width) ⊎ (j * width + b ≤ i * width)
bays_apart width i j h k other =
    by_lt i j
    (λ less. inl (omega (arith, mul-le-mul_right width less, suc-mul i width)))
    (λ more. by_lt j i (λ less. inr (omega (arith, mul-le-mul_right width less, suc-mul j width))) (λ same. absurd (other (omega arith))))

module _ (s : Settings) (log : List ℕ) (size width : ℕ) where
  abbrev call : ℕ → List ℕ → List ℕ
  call i board = segment_leaves s log size width i board

  abbrev shape : ℕ → ℕ → Verdict
  shape i numbers = verdict (call_rows s (length log) (segment_fits (length log) size width i numbers))

  -- what a call on a board of so many numbers stores into its bay: nothing where it is refused
  storing : ℕ → ℕ → List ℕ → List ℕ
  storing i numbers bay = ruled (shape i numbers) (λ _. []) (recorded (segment_of s log size i) bay)

  abbrev stores : ℕ → List ℕ → List ℕ
  stores i board = storing i (length board) (bay_of width i board)

  module _ (i : ℕ) (board : List ℕ) (v : shape i (length board) ≡ Ok tt) where
    shaped : BoardShape (length log) size width (length board) × (i < segments (length log) size)
    unfolding segment_fits
    shaped = let all = both_true (passed s (length log) _ v).2 in (board_shape (length log) size width (length board) all.0, ltb-true _ _ all.1)

    inside : i * width + width ≤ length board
    inside = bay_inside (segments (length log) size) width i (length board) shaped.1 shaped.0.enough

    bay_long : length (bay_of width i board) ≡ width
    bay_long = length_bay width i board inside

    stores_record : stores i board ≡ recorded (segment_of s log size i) (bay_of width i board)
    unfolding storing
    stores_record = rw v

    stores_all : length (stores i board) ≡ width
    stores_all = ap length stores_record ∙ length_recorded (segment_of s log size i) (bay_of width i board) (rw bay_long shaped.0.wide) ∙ bay_long

  -- rows 1, 2 and 7 alone say whether the bay is written: 6 writes it too
  call_by : (i : ℕ) (board : List ℕ)
      → call i board ≡ ruled (shape i (length board)) (λ _. board) (with_bay width i (recorded (segment_of s log size i) (bay_of width i board)) board)
  unfolding segment_leaves segment_rows
  call_by i board = left_by RecordTooLong (call_rows s (length log) (segment_fits (length log) size width i (length board))) _ board _ (plain_call s (length log) _).0

  -- every call is a run of stores into its bay
  call_stores : (i : ℕ) (board : List ℕ) → call i board ≡ sets board (i * width) (stores i board)
  unfolding with_bay storing
  call_stores i board =
      call_by i board
      ∙ by_verdict (shape i (length board))
      (λ v. let all = stores_all i board v in
      let fits : i * width + length (stores i board) ≤ length board = rw all (inside i board v) in
      rw v (rw (← stores_record i board v)
      (sym (sets-eq (stores i board) board (i * width) fits ∙ append_assoc (take (i * width) board) (stores i board) _ ∙ rw all))))
      (λ why v. rw v)

  stores_short : (i : ℕ) (board : List ℕ) → length (stores i board) ≤ width
  unfolding storing
  stores_short i board = by_verdict (shape i (length board)) (λ v. omega (arith, stores_all i board v)) (λ why v. rw v (omega arith))

  length_call : (i : ℕ) (board : List ℕ) → length (call i board) ≡ length board
  length_call i board = ap length (call_stores i board) ∙ length-sets board (i * width) (stores i board)

  -- a call that is not refused leaves the record in its own bay
  pub own_written : (i : ℕ) (board : List ℕ) → verdict (call_rows s (length log) (segment_fits (length log) size width i (length board))) ≡ Ok tt
      → (bay_of width i (segment_leaves s log size width i board) ≡ recorded (segment_of s log size i) (bay_of width i board))
      × (length (bay_of width i board) ≡ width)
  own_written i board v =
      let all = stores_all i board v in
      let own : bay_of width i (call i board) ≡ stores i board =
      unfold bay_of in (ap (λ (b : List ℕ). take width (drop (i * width) b)) (call_stores i board)
      ∙ rw all at (part_same board (i * width) (stores i board) (rw all (inside i board v)))) in
      (own ∙ stores_record i board v, bay_long i board v)

  -- and changes no other bay
  pub other_kept : (i j : ℕ) (board : List ℕ) → (i ≡ j → ⊥) → bay_of width j (segment_leaves s log size width i board) ≡ bay_of width j board
  unfolding bay_of
  other_kept i j board other =
      ap (λ (b : List ℕ). take width (drop (j * width) b)) (call_stores i board)
      ∙ part_other width (j * width) board (i * width) (stores i board) (bays_apart width i j (stores_short i board) (omega arith) other)

  both_stores : (i j : ℕ) (board : List ℕ) → (i ≡ j → ⊥)
      → call i (call j board) ≡ sets (sets board (j * width) (stores j board)) (i * width) (stores i board)
  both_stores i j board other =
      call_stores i (call j board)
      ∙ ap₂ (λ (x b : List ℕ). sets b (i * width) x)
      (ap₂ (storing i) (length_call j board) (other_kept j i board (λ e. other (sym e))))
      (call_stores j board)

  -- two calls, in either order
  calls_commute : (i j : ℕ) (board : List ℕ) → call i (call j board) ≡ call j (call i board)
  calls_commute i j board =
      by_same i j
      (λ e. ap₂ (λ (x y : ℕ). call x (call y board)) e (sym e))
      (λ other. both_stores i j board other
      ∙ sets_commute board (i * width) (j * width) (stores i board) (stores j board) (bays_apart width i j (stores_short i board) (stores_short j board) other)
      ∙ sym (both_stores j i board (λ e. other (sym e))))

  -- segment calls in any order of a permutation give the same board
  pub any_order : {is js : List ℕ} → Permᴰ is js → (board : List ℕ) → record_all s log size width is board ≡ record_all s log size width js board
  unfolding record_all
  any_order Permᴰ.nil board = refl
  any_order (Permᴰ.cons {a = i} {b = j} {l₂ = js} e p) board =
      any_order p (call i board) ∙ ap (λ (x : ℕ). record_all s log size width js (call x board)) e
  any_order (Permᴰ.swap {a = i} {b = j} {l = l} e f) board =
      ap (record_all s log size width l) (calls_commute j i board ∙ ap₂ (λ (x y : ℕ). call x (call y board)) e f)
  any_order (Permᴰ.trans p q) board = any_order p board ∙ any_order q board

  -- a segment whose record fits its bay, on boards that are not refused
  module _ (i : ℕ) (fits : record_fits (segment_of s log size i) width ≡ true) where
    wrote_holds : (board : List ℕ) → shape i (length board) ≡ Ok tt → Holds (bay_of width i (call i board)) (segment_of s log size i)
    wrote_holds board v =
        let own = own_written i board v in
        rw own.0
        (recorded-holds (segment_of s log size i) (bay_of width i board) (ap (record_fits (segment_of s log size i)) own.1 ∙ fits))

    -- once recorded, a bay holds its record whatever calls follow
    still_held : (calls board : List ℕ) → shape i (length board) ≡ Ok tt → Holds (bay_of width i board) (segment_of s log size i)
        → Holds (bay_of width i (record_all s log size width calls board)) (segment_of s log size i)
    unfolding record_all
    still_held [] board v h = h
    still_held (j ∷ calls) board v h =
        still_held calls (call j board) (ap (shape i) (length_call j board) ∙ v)
        (by_same j i
        (λ e. rw e (wrote_holds board v))
        (λ other. rw (other_kept j i board other) h))

    pub then_held : (calls board : List ℕ) → shape i (length board) ≡ Ok tt → Memᴰ i calls
        → Holds (bay_of width i (record_all s log size width calls board)) (segment_of s log size i)
    unfolding record_all
    then_held [] board v m = elim m [ ]
    then_held (j ∷ calls) board v (Memᴰ.head e) =
        still_held calls (call j board) (ap (shape i) (length_call j board) ∙ v) (rw (sym e) (wrote_holds board v))
    then_held (j ∷ calls) board v (Memᴰ.tail m) = then_held calls (call j board) (ap (shape i) (length_call j board) ∙ v) m
