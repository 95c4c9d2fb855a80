-- Demand 2, first half: marks follow Rabin's fingerprint, cuts the one-pass rule, and a whole log that is not refused gets that one list.
use Rattle.std.specs.Prelude.{Ok, Err}
use Prim.Native.Nat.{ℕ, ◌-◌, ◌%◌, ◌^◌, ◌≤◌, ◌<◌}
use mathlib.Core.Path.{◌≡◌, refl, sym, ap, ◌∙◌}
use mathlib.Core.Bool.{true}
use mathlib.Core.Logic.{◌↔◌}
use mathlib.Core.List.{List}
use native.Mathlib.Omega.{arith}
use lib.Dec.{lit<}
use lib.Pow.{pow_pos}
use lib.ListN.{length}
use borrow.Author.Tests.{leb-true, ltb-false, eqb-true, le-leb, eq-eqb}
use Rattle.laws.proofs.Cases.{both_true}
use Rattle.terms.specs.declared.Settings.{Settings}
use Rattle.terms.specs.declared.Refusal.TheVariants.{ListFull}
use Rattle.terms.specs.Settings.{in_range}
use Rattle.terms.specs.Answers.{answer_number, longest}
use Rattle.terms.specs.Rows.{verdict, first_row, Leaves}
use Rattle.terms.proofs.Ranges.{ranges}
use Rattle.terms.proofs.Verdicts.{through, clear, refused_leaves}
use Rattle.lists.specs.Written.{written_list}
use Rattle.lists.specs.WellFormed.{well_formed, length_of}
use Rattle.lists.proofs.Reaching.{Reaches, there, step, reaches, fits, reaches_long}
use Rattle.rule.specs.Rule.{OnePass}
use Rattle.rule.proofs.Whole as rule
use Rattle.signature.specs.Polynomials.{rem}
use Rattle.signature.specs.Signatures.{number, window, signature, signature_of, degree, low_part}
use Rattle.signature.proofs.Remainders.{rem_exactly}
use Rattle.cutting.specs.Marks.{mark, matches, cut_list}
use Rattle.cutting.specs.Calls.{cut_log_rows, cut_log_answer, cut_log_leaves}
use Rattle.cutting.proofs.Reaching as cutting
use Rattle.promises.specs.OneList.{InRange, Marked, Pieces, no_more, last, piece, Lists}
use Rattle.promises.proofs.Successes.{wrote_all}

-- settings in range are those of document 01, and no others
pub settings_told : (s : Settings) → in_range s ≡ true ↔ InRange s
unfolding in_range
settings_told s = (
  λ ok.
      let known = ranges s ok in
      record {
        bits = (known.some_bits, known.few_bits);
        target = (known.some_target, omega (arith, known.low_target, pow_pos s.bits));
        minimum = known.window-fits;
        maximum = known.bounded;
        ordered = known.ordered;
      },
  λ told.
      let low : s.target ≤ 2 ^ s.bits - 1 = omega (arith, told.target.1) in
      rw (
        le-leb _ _ told.bits.0,
        le-leb _ _ told.bits.1,
        le-leb _ _ told.target.0,
        le-leb _ _ low,
        le-leb _ _ told.minimum,
        le-leb _ _ told.maximum,
        le-leb _ _ told.ordered,
      ),
)

told_of_mark : (s : Settings) (log : List ℕ) (p : ℕ) → mark s log p ≡ true → Marked s log p
unfolding mark matches signature_of signature
told_of_mark s log p is-mark =
    let low = both_true is-mark in
    let high = both_true low.1 in
    let bytes = number (window log (p - 48)) in
    let told = (rem_exactly degree low_part (lit< tt) bytes (rem degree low_part bytes)).0 refl in
    record {
      above = leb-true _ _ low.0;
      inside = leb-true _ _ high.0;
      remainder = rem degree low_part bytes;
      quotient = told.1.0;
      reduced = told.0;
      divided = told.1.1;
      on_target = eqb-true _ _ high.1;
    }

mark_as_told : (s : Settings) (log : List ℕ) (p : ℕ) → Marked s log p → mark s log p ≡ true
unfolding mark matches signature_of signature
mark_as_told s log p told =
    let is-rem = (rem_exactly degree low_part (lit< tt) (number (window log (p - 48))) told.remainder).1
    (told.reduced, (told.quotient, told.divided)) in
    rw (le-leb _ _ told.above, le-leb _ _ told.inside, eq-eqb _ _ (ap (λ r. r % 2 ^ s.bits) (sym is-rem) ∙ told.on_target))

pub marks : (s : Settings) (log : List ℕ) (p : ℕ) → mark s log p ≡ true ↔ Marked s log p
marks s log p = (told_of_mark s log p, mark_as_told s log p)

pieces_of : {lo hi n c : ℕ} {l : List ℕ} → Reaches lo hi n c l → Pieces lo hi n c l
pieces_of there = no_more
pieces_of (step up near far there) = last up near
pieces_of {n = n} (step {x = x} up near far (step up' near' far' more)) =
    let below : x < n = omega (arith, reaches_long more) in piece (far below) near below (pieces_of (step up' near' far' more))

as_pieces : {lo hi n c : ℕ} {l : List ℕ} → 0 < lo → Pieces lo hi n c l → Reaches lo hi n c l
as_pieces positive no_more = there
as_pieces positive (last up near) = step up near (λ h. absurd (omega arith)) there
as_pieces positive (piece {start = start} {cut = cut} far near below rest) =
    let up : start < cut = omega arith in step up near (λ h. far) (as_pieces positive rest)

-- a list is well formed where it parts a log of at most 2^40 bytes into such pieces
pub list_told : (lo hi : ℕ) → 0 < lo → (list : List ℕ) → well_formed lo hi list ≡ true ↔ (Pieces lo hi (length_of list) 0 list × (length_of list ≤ 2 ^ 40))
unfolding well_formed length_of
list_told lo hi positive list = (
  λ formed. let (reach, short) = reaches lo hi 0 list formed in (pieces_of reach, short),
  λ told. fits lo hi told.1 (as_pieces positive told.0),
)

module _ (settings : Settings) (log : List ℕ) where
  module _ (ok : in_range settings ≡ true) where
    -- a list is that of the log exactly where each of its cuts is the next after the one before, by the rule, up to the end
    pub one_pass : (l : List ℕ) → OnePass (mark settings log) settings.minimum settings.maximum (length log) 0 l ↔ (cut_list settings log ≡ l)
    one_pass =
        let in-range = ranges settings ok in
        rule.one_pass (mark settings log) settings.minimum settings.maximum (length log) in-range.positive in-range.ordered

    pub pieces : Pieces settings.minimum settings.maximum (length log) 0 (cut_list settings log)
    pieces =
        let in-range = ranges settings ok in
        pieces_of (cutting.cuts_reach (mark settings log) settings.minimum settings.maximum (length log) in-range.positive in-range.ordered 0 (omega arith))

    -- so that it can be amended and written on a sheet
    pub true_list : length log ≤ longest → (well_formed settings.minimum settings.maximum (cut_list settings log) ≡ true) × (length_of (cut_list settings log) ≡ length log)
    true_list = cutting.true_list settings log ok

  pub whole_log_rows : (room : ℕ) → answer_number (cut_log_answer settings log room) ≡ first_row (cut_log_rows settings log room)
  unfolding answer_number cut_log_answer
  whole_log_rows room = through answer_number (verdict (cut_log_rows settings log room)) Err _

  pub whole_log_leaves : (list : List ℕ)
      → Leaves (answer_number (cut_log_answer settings log (length list))) 17 list (written_list (cut_list settings log) list) (cut_log_leaves settings log list)
  unfolding cut_log_leaves
  whole_log_leaves list = rw (whole_log_rows (length list)) (refused_leaves (verdict (cut_log_rows settings log (length list))) ListFull)

  -- a success counts the log's cuts, and writes them over the list's first entries
  pub whole_log : (list : List ℕ) {k : ℕ} → cut_log_answer settings log (length list) ≡ Ok k → Lists list (cut_log_leaves settings log list) (cut_list settings log) k
  unfolding cut_log_answer cut_log_leaves cut_log_rows
  whole_log list e =
      wrote_all (verdict (cut_log_rows settings log (length list))) (cut_list settings log) list e
      (λ v. ltb-false _ _ (clear _ _ _ (clear _ _ _ (clear _ _ _ (clear _ _ _ v).1).1).1).0)
