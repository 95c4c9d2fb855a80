-- A record put into its bay, and a bay put back into its board, as the code does it.
use Rattle.std.specs.Prelude.{Ok, Err}
use Prim.Native.Nat.{ℕ, suc, ◌+◌, ◌-◌, ◌*◌, ◌≤◌, ◌<◌}
use mathlib.Core.Path.{◌≡◌, ap, ap₂, ◌∙◌}
use mathlib.Core.Bool.{Bool, true}
use mathlib.Core.List.{List, [], ◌∷◌, ◌++◌, append-nil}
use native.Mathlib.Nat.{zero-add}
use native.Mathlib.Omega.{arith}
use lib.Dec.{ltb}
use lib.ListN.{length, take, drop, set, length-take, length-drop, drop_of_length-le}
use lib.Seq.{sets, take_all, drop-drop}
use borrow.Author.Tests.{le-leb, lt-leb, leb-true, ltb-true}
use Rattle.laws.proofs.Cases.{both_true}
use Rattle.laws.specs.Over.{over}
use Rattle.laws.proofs.Writing.{over_full}
use Rattle.terms.specs.declared.Refusal.TheVariants.{RecordTooLong}
use Rattle.board_record.specs.declared.Recorded.{Recorded}
use Rattle.board_bays.specs.Bays.{Record, entries}
use Rattle.terms.specs.Answers.{longest}
use Rattle.terms.specs.declared.Settings.{Settings}
use Rattle.terms.specs.Settings.{in_range}
use Rattle.terms.specs.Rows.{Verdict, verdict}
use Rattle.board_bays.specs.Judging.{call_rows}
use Rattle.board_bays.proofs.Verdicts.{came, passed}
use Rattle.board_bays.specs.Segments.{segments, shape_fits, board_fits, bay_fits, segment_fits, There}
use Rattle.board.specs.Recording.{record_fits, recorded, with_bay}
use Rattle.board.specs.Inner.{filled_answer}
use Rattle.board_record.specs.Stretches.{Records}
use Rattle.laws.proofs.Sets.{sets_written}
use Rattle.laws.proofs.Slices.{rest_from}
use Rattle.board_bays.proofs.Ranges.{sizes, bay_lent, bay_inside, length_bay}
use Rattle.board_bays.specs.Bays.{bay_of}

-- the record's offsets were written from entry 2 on, as far as the bay goes
module _ (r : Record) (rec : Recorded) (bay part : List ℕ) (wide : 2 ≤ length bay) (w : Records r 0 rec (take (length bay - 2) (drop 2 bay)) part) where
  count_is : rec.count ≡ length r.offsets
  count_is = w.counted ∙ zero-add (length r.offsets)

  part_is : part ≡ over (take (length bay - 2) r.offsets) (drop 2 bay)
  part_is =
      w.kept ∙ ap (λ (l : List ℕ). sets l 0 r.offsets) (rest_from bay 2) ∙ sets_written (drop 2 bay) r.offsets
      ∙ ap (λ (k : ℕ). over (take k r.offsets) (drop 2 bay)) (length-drop 2 bay)

  -- and entries 0 and 1 are stored last
  stored : (x y : ℕ) → set (set (take 2 bay ++ (part ++ drop (length bay - 2) (drop 2 bay))) 0 x) 1 y ≡ x ∷ y ∷ part
  stored x y = go bay wide
    where
      go : (b : List ℕ) → 2 ≤ length b → set (set (take 2 b ++ (part ++ drop (length b - 2) (drop 2 b))) 0 x) 1 y ≡ x ∷ y ∷ part
      go [] h = absurd (omega arith)
      go (a ∷ []) h = absurd (omega arith)
      go (a ∷ b ∷ rest) h =
          let none : drop (suc (suc (length rest)) - 2) rest ≡ [] = drop_of_length-le rest {i = suc (suc (length rest)) - 2} (omega arith) in
          ap (λ (l : List ℕ). x ∷ y ∷ l) (ap (λ (l : List ℕ). part ++ l) none ∙ append-nil part)

  pub record_fitted : rec.count ≤ length bay - 2
      → (Ok (rec.count + 2) ≡ filled_answer r (length bay))
      × (set (set (take 2 bay ++ (part ++ drop (length bay - 2) (drop 2 bay))) 0 (rec.count + 1)) 1 rec.marker ≡ recorded r bay)
  unfolding filled_answer verdict record_fits recorded over entries
  record_fitted h =
      let fits : length r.offsets ≤ length bay - 2 = omega (arith, count_is) in
      let n : rec.count + 1 ≡ suc (length r.offsets) = omega (arith, count_is) in
      let past : 2 + length r.offsets ≡ suc (suc (length r.offsets)) = omega arith in
      let offsets : part ≡ r.offsets ++ drop (suc (suc (length r.offsets))) bay =
      part_is ∙ rw (take_all (length bay - 2) r.offsets fits, drop-drop, past) in (
        rw (le-leb _ _ fits) (ap Ok (omega (arith, count_is))),
        rw (le-leb _ _ fits) (stored (rec.count + 1) rec.marker ∙ rw (n, w.marked) (ap (λ (l : List ℕ). suc (length r.offsets) ∷ r.marker ∷ l) offsets)),
      )

  pub record_long : length bay - 2 < rec.count
      → (Err RecordTooLong ≡ filled_answer r (length bay))
      × (set (set (take 2 bay ++ (part ++ drop (length bay - 2) (drop 2 bay))) 0 0) 1 0 ≡ recorded r bay)
  unfolding filled_answer verdict record_fits recorded
  record_long h =
      let long : length bay - 2 < length r.offsets = omega (arith, count_is) in
      let filled : length (drop 2 bay) ≡ length (take (length bay - 2) r.offsets) = rw (length-drop, length-take) (omega arith) in (
        rw (lt-leb _ _ long),
        rw (lt-leb _ _ long) (stored 0 0 ∙ ap (λ (l : List ℕ). 0 ∷ 0 ∷ l) (part_is ∙ over_full _ (drop 2 bay) filled)),
      )

-- a granted call's segment is there
there_by : (n size width i : ℕ) → shape_fits size width ≡ true → n ≤ longest → ltb i (segments n size) ≡ true → There n size i × (2 ≤ width)
there_by n size width i shape short exists =
    let z = sizes size width shape in
    (record { large = z.0; bounded = z.1; short = short; there = ltb-true _ _ exists }, z.2)

module _ (s : Settings) (n : ℕ) {v : Verdict} {asked : Bool} (told : v ≡ verdict (call_rows s n asked)) (fine : v ≡ Ok tt) where
  pub granted : {fits : Bool} → asked ≡ fits → (in_range s ≡ true) × (n ≤ longest) × (fits ≡ true)
  granted {fits} fit = passed s n fits (came s n told fit fine)

  pub bay_granted : (size width i : ℕ) → asked ≡ bay_fits n size width i → There n size i × (2 ≤ width)
  unfolding bay_fits
  bay_granted size width i fit =
      let g = granted fit in
      let f = both_true g.2 in
      there_by n size width i f.0 g.1 f.1

  pub segment_granted : (size width i numbers : ℕ) → asked ≡ segment_fits n size width i numbers → There n size i × (2 ≤ width) × (i * width + width ≤ numbers)
  unfolding segment_fits board_fits
  segment_granted size width i numbers fit =
      let g = granted fit in
      let f = both_true g.2 in
      let b = both_true f.0 in
      let there = there_by n size width i b.0 g.1 f.1 in
      (there.0, there.1, bay_inside (segments n size) width i numbers there.0.there (leb-true _ _ b.1))

-- a bay as it was lent, and put back into its board
module _ (width i : ℕ) (board : List ℕ) (fits : i * width + width ≤ length board) where
  lent_long : length (take (i * width + width - i * width) (drop (i * width) board)) ≡ width
  lent_long = ap length (bay_lent width i board) ∙ length_bay width i board fits

  pub lent_wide : 2 ≤ width → 2 ≤ length (take (i * width + width - i * width) (drop (i * width) board))
  lent_wide wide = rw lent_long wide

  pub lent_answer : (r : Record) → filled_answer r (length (take (i * width + width - i * width) (drop (i * width) board))) ≡ filled_answer r width
  lent_answer r = ap (filled_answer r) lent_long

pub put_back : (r : Record) (width i : ℕ) (board : List ℕ) {part : List ℕ} → part ≡ recorded r (take (i * width + width - i * width) (drop (i * width) board))
    → take (i * width) board ++ (part ++ drop (i * width + width - i * width) (drop (i * width) board)) ≡ with_bay width i (recorded r (bay_of width i board)) board
unfolding with_bay
put_back r width i board q =
    let same : i * width + width - i * width ≡ width = omega arith in
    ap₂ (λ (x y : List ℕ). take (i * width) board ++ (x ++ y)) (q ∙ ap (recorded r) (bay_lent width i board))
    (ap (λ (j : ℕ). drop j (drop (i * width) board)) same ∙ drop-drop width (i * width) board)
