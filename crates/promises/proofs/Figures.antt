-- `figures`: the starred figures, by one test that is computed over the whole table and carried to each row.
use Prim.Native.Nat.{ℕ, ◌^◌}
use mathlib.Core.Path.{◌≡◌, refl, ap₂}
use mathlib.Core.Bool.{Bool, true, false, ◌&&◌}
use mathlib.Core.List.{List, [], ◌∷◌}
use native.Mathlib.Omega.{arith}
use lib.Dec.{eqb}
use lib.ListN.{length}
use borrow.Author.Tests.{eqb-true}
use Rattle.laws.proofs.Cases.{both_true}
use Rattle.rule.specs.Rule.{first_mark, next, chain, cuts_from, hop, hops, cuts_up_to}
use Rattle.signature.specs.Polynomials.{rem, divide, fold_digits}
use Rattle.signature.specs.Signatures.{degree, low_part, number as number_of_bytes, signature, signature_of}
use Rattle.cutting.specs.Marks.{matches, mark, cut_list}
use Rattle.laws.specs.Over.{over}
use Rattle.terms.specs.Settings.{in_range}
use Rattle.terms.specs.Answers.{answer_number, answer_count}
use Rattle.board_bays.specs.Segments.{size_in_range, segments, segment_start, segment_end, shape_fits, board_fits, segment_fits}
use Rattle.board_bays.specs.Bays.{entries, bay_of}
use Rattle.board_record.specs.Records.{marks_among, marks_in, is_marker, prepend, record_after, slow_record, segment_record}
use Rattle.board_bays.specs.Judging.{call_rows}
use Rattle.terms.specs.Rows.{verdict}
use Rattle.board.specs.Recording.{record_fits, recorded, with_bay, segment_rows, segment_answer, segment_leaves}
use Rattle.promises.specs.Figures.{Figure, power, cuts, segment, Holds, starred, Each, none, and_each, log_a, log_c}

same_lists : List ℕ → List ℕ → Bool
same_lists [] [] = true
same_lists [] (y ∷ ys) = false
same_lists (x ∷ xs) [] = false
same_lists (x ∷ xs) (y ∷ ys) = eqb x y && same_lists xs ys

never : {A : Type 0} → false ≡ true → A
never e = let z : ◌≡◌ {A = ℕ} 0 1 = cc in absurd (omega arith)

same-lists : (xs ys : List ℕ) → same_lists xs ys ≡ true → xs ≡ ys
unfolding same_lists
same-lists [] [] e = refl
same-lists [] (y ∷ ys) e = never e
same-lists (x ∷ xs) [] e = never e
same-lists (x ∷ xs) (y ∷ ys) e = let both = both_true e in ap₂ ◌∷◌ (eqb-true x y both.0) (same-lists xs ys both.1)

test : Figure → Bool
test (power k value) = eqb (rem degree low_part (2 ^ k)) value
test (cuts settings log list) = same_lists (cut_list settings log) list
test (segment settings log size width i board number count after) =
    eqb (answer_number (segment_answer settings log size width i (length board))) number
    && (eqb (answer_count (segment_answer settings log size width i (length board))) count
    && same_lists (segment_leaves settings log size width i board) after)

told : (f : Figure) → test f ≡ true → Holds f
unfolding test Holds
told (power k value) e = eqb-true _ _ e
told (cuts settings log list) e = same-lists _ _ e
told (segment settings log size width i board number count after) e =
    let both = both_true e in
    let rest = both_true both.1 in
    (eqb-true _ _ both.0, eqb-true _ _ rest.0, same-lists _ _ rest.1)

test_all : List Figure → Bool
test_all [] = true
test_all (f ∷ fs) = test f && test_all fs

each : (fs : List Figure) → test_all fs ≡ true → Each fs
unfolding test_all
each [] e = none
each (f ∷ fs) e = let both = both_true e in and_each (told f both.0) (each fs both.1)

passed : test_all starred ≡ true
unfolding test_all test same_lists starred log_a log_c cuts_from chain next first_mark mark matches signature_of signature number_of_bytes rem divide fold_digits answer_number answer_count segment_answer segment_leaves record_fits recorded with_bay bay_of call_rows segment_rows verdict in_range size_in_range segments segment_start segment_end shape_fits board_fits segment_fits entries marks_among marks_in is_marker prepend record_after slow_record segment_record hop hops cuts_up_to over
passed = refl

pub figures : Each starred
figures = each starred passed
