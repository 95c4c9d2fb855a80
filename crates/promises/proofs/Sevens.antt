-- Number 7 of the calls on a board is answered where S or R is out of range, there is no such segment, or the board is shorter than the bays.
use Prim.Native.Nat.{ℕ, zero, suc, ◌+◌, ◌-◌, ◌*◌, ◌≤◌, ◌<◌}
use mathlib.Core.Path.{◌≡◌, refl, sym, ◌∙◌}
use mathlib.Core.Bool.{Bool, true, false}
use mathlib.Core.List.{List, ◌++◌}
use native.Mathlib.Nat.{le-div_iff_mul-le, suc-mul}
use native.Mathlib.Omega.{arith}
use lib.ListN.{length}
use borrow.Author.Tests.{leb-true, ltb-true, le-leb, lt-ltb, le-ltb, eq-eqb}
use Rattle.laws.proofs.Cases.{both_true, clash}
use Rattle.terms.specs.declared.Settings.{Settings}
use Rattle.terms.specs.declared.Refusal.TheVariants.{NoSuchSegment}
use Rattle.terms.specs.Refusals.{number_of}
use Rattle.terms.specs.Settings.{in_range}
use Rattle.terms.specs.Answers.{answer_number, longest}
use Rattle.terms.specs.Rows.{Row, verdict, first_row, lacks}
use Rattle.terms.proofs.Verdicts.{by_verdict, lacking}
use Rattle.board_bays.specs.Segments.{segments, size_in_range, shape_fits, board_fits, bay_fits, segment_fits}
use Rattle.board_bays.specs.Judging.{call_rows, bay_rows, bays_rows}
use Rattle.board_bays.proofs.Ranges.{sizes, begins_below}
use Rattle.board.specs.Recording.{record_rows, record_answer, segment_rows, segment_answer}
use Rattle.board.specs.Merging.{merge_rows, merge_answer}
use Rattle.promises.specs.Boards.{ShapeTold, OnlyWhere}
use Rattle.promises.proofs.BoardRows.{merge_rows_lem, record_rows_lem, segment_rows_lem}

-- where rows 1 and 2 pass, 7 is answered as its test says
other : (s : Settings) (n : ℕ) (later : List Row) → in_range s ≡ true → n ≤ longest → lacks NoSuchSegment later ≡ true → first_row (call_rows s n true ++ later) ≡ 7 → ⊥
unfolding call_rows verdict
other s n later ok short l is =
    let rest : first_row later ≡ 7 = rw (ok, le-ltb longest n short) at is in
    by_verdict (verdict later)
    (λ v. let none : 0 ≡ 7 = rw v at rest in omega arith)
    (λ why v. let seventh : number_of why ≡ 7 = rw v at rest in clash (sym (eq-eqb _ _ seventh) ∙ lacking NoSuchSegment later l v))

answered : (s : Settings) (n : ℕ) (later : List Row) → in_range s ≡ true → n ≤ longest → first_row (call_rows s n false ++ later) ≡ 7
unfolding call_rows verdict
answered s n later ok short = rw (ok, le-ltb longest n short)

seven : (s : Settings) (n : ℕ) (fits : Bool) (later : List Row) {fine : Type 0} {number : ℕ} → in_range s ≡ true → n ≤ longest → lacks NoSuchSegment later ≡ true
    → number ≡ first_row (call_rows s n fits ++ later) → (fits ≡ true → fine) → (fine → fits ≡ true) → OnlyWhere number 7 fine
seven s n true later ok short l told to from = record { refused = λ is f. other s n later ok short l (sym told ∙ is); passed = λ no. to refl }
seven s n false later ok short l told to from =
    record { refused = λ is f. clash (sym (from f)); passed = λ no. absurd (no (told ∙ answered s n later ok short)) }

no_sevens : (s : Settings) (n size width : ℕ) (board : List ℕ) (later : List Row) → lacks NoSuchSegment later ≡ true → (k i : ℕ)
    → lacks NoSuchSegment (bays_rows s n size width board k i ++ later) ≡ true
unfolding lacks bays_rows bay_rows
no_sevens s n size width board later l zero i = l
no_sevens s n size width board later l (suc k) i = no_sevens s n size width board later l k (suc i)

shape_told : (size width : ℕ) → shape_fits size width ≡ true → ShapeTold size width
shape_told size width t = let z = sizes size width t in record { at_least = z.0; at_most = z.1; wide = z.2 }

shape-fits : (size width : ℕ) → ShapeTold size width → shape_fits size width ≡ true
unfolding shape_fits size_in_range
shape-fits size width z = rw (le-leb _ _ z.at_least, le-leb _ _ z.at_most, le-leb _ _ z.wide)

exists : (n size i : ℕ) → 64 ≤ size → i * size < n → i < segments n size
unfolding segments
exists n size i large h = (le-div_iff_mul-le {k = size} {x = suc i} {y = n + (size - 1)} (omega arith)).1 (omega (arith, suc-mul i size))

module _ (s : Settings) (log : List ℕ) (size width i : ℕ) (ok : in_range s ≡ true) (short : length log ≤ longest) where
  pub record_seven : OnlyWhere (answer_number (record_answer s log size width i)) 7 (ShapeTold size width × (i * size < length log))
  unfolding record_rows lacks bay_fits
  record_seven =
      seven s (length log) (bay_fits (length log) size width i) _ ok short refl (record_rows_lem s log size i width)
      (λ t. let both = both_true t in
      let shape = shape_told size width both.0 in
      (shape, begins_below (length log) size (omega (arith, shape.at_least)) i (ltb-true _ _ both.1)))
      (λ f. rw (shape-fits size width f.0, lt-ltb _ _ (exists (length log) size i f.0.at_least f.1)))

  pub segment_seven : (entries : ℕ)
      → OnlyWhere (answer_number (segment_answer s log size width i entries)) 7 (ShapeTold size width × (segments (length log) size * width ≤ entries) × (i * size < length log))
  unfolding segment_rows lacks segment_fits board_fits
  segment_seven entries =
      seven s (length log) (segment_fits (length log) size width i entries) _ ok short refl (segment_rows_lem s log size width i entries)
      (λ t. let both = both_true t in
      let board = both_true both.0 in
      let shape = shape_told size width board.0 in
      (shape, leb-true _ _ board.1, begins_below (length log) size (omega (arith, shape.at_least)) i (ltb-true _ _ both.1)))
      (λ f. rw (shape-fits size width f.0, le-leb _ _ f.1, lt-ltb _ _ (exists (length log) size i f.0.at_least f.2)))

pub merge_seven : (s : Settings) (n size width : ℕ) (board : List ℕ) (room : ℕ) → in_range s ≡ true → n ≤ longest
    → OnlyWhere (answer_number (merge_answer s n size width board room)) 7 (ShapeTold size width × (segments n size * width ≤ length board))
unfolding merge_rows lacks board_fits
merge_seven s n size width board room ok short =
    seven s n (board_fits n size width (length board)) _ ok short (no_sevens s n size width board _ refl (segments n size) 0) (merge_rows_lem s n size width board room)
    (λ t. let both = both_true t in (shape_told size width both.0, leb-true _ _ both.1))
    (λ f. rw (shape-fits size width f.0, le-leb _ _ f.1))
