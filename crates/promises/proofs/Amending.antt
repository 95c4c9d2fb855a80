-- Amending: its rows of the table, what it leaves and counts, and demand 3, the amended list.
use Rattle.std.specs.Prelude.{Ok, Err}
use Prim.Native.Nat.{ℕ, ◌+◌, ◌≤◌, ◌<◌}
use mathlib.Core.Path.{◌≡◌, refl, sym, ◌∙◌}
use mathlib.Core.Bool.{true}
use mathlib.Core.Logic.{◌↔◌}
use mathlib.Core.List.{List, ◌++◌}
use native.Mathlib.Omega.{arith}
use lib.ListN.{length, get_or}
use borrow.Author.Tests.{ltb-false}
use Rattle.laws.proofs.Cases.{by_test}
use Rattle.terms.specs.declared.Settings.{Settings}
use Rattle.terms.specs.declared.Refusal.TheVariants.{ListFull}
use Rattle.terms.specs.Settings.{in_range}
use Rattle.terms.specs.Answers.{longest}
use Rattle.terms.specs.Rows.{verdict, first_row, Leaves}
use Rattle.terms.proofs.Verdicts.{through, clear, refused_leaves, none_holds}
use Rattle.terms.proofs.Ranges.{ranges}
use Rattle.lists.specs.WellFormed.{well_formed, length_of}
use Rattle.lists.proofs.Reaching.{Reaches}
use Rattle.cutting.specs.Marks.{mark, cut_list}
use Rattle.lists.specs.Written.{written_list}
use Rattle.cutting.specs.Calls.{cut_log_answer, cut_log_leaves}
use Rattle.cutting.proofs.Reaching.{cuts_reach}
use Rattle.lists.proofs.Written.{written_whole}
use Rattle.amending.specs.declared.edits.Edit.{Edit}
use Rattle.amending.specs.Answers.{Amendment}
use Rattle.amending.specs.Parts.{front, past_front, restart, recut, back, amended_list, stretch_end}
use Rattle.amending.specs.Told.{FrontTold, Recut}
use Rattle.amending.specs.Answers.{amendment_number, front_of, recut_of, back_of, new_cuts_of, edit_fits, counts, amend_rows, amend_answer, amend_leaves}
use Rattle.amending.proofs.Afresh.{replaced, amend_cuts_afresh}
use Rattle.amending.proofs.Stretch.{stretch_parts}
use Rattle.amending.proofs.Fitting.{edit_told, edit_fits_lem}
use Rattle.amending.proofs.Told.{front_told, recut_told}
use Rattle.amending.proofs.Chained.{well_formed_again, new_length, meeting_there}
use Rattle.promises.specs.Amendments.{Counts, Counted, AsAfresh}

-- an edit that row 11 lets pass: s is not past the old length n, d not past what follows s, and the new length is n - d + e
pub edit_told_exactly : (n : ℕ) (edit : Edit) (bytes : ℕ) → edit_fits n edit bytes ≡ true ↔ ((edit.at + edit.removed ≤ n) × (n + edit.added ≡ bytes + edit.removed))
edit_told_exactly n edit bytes = (edit_told n edit bytes, λ told. edit_fits_lem n edit bytes (omega (arith, told.0)) (omega (arith, told.0)) told.1)

-- beside a refusal each count is 0
pub amend_uncounted : (answer : Amendment) → (amendment_number answer ≡ 0 → ⊥) → Counts answer 0 0 0
unfolding amendment_number front_of recut_of back_of
amend_uncounted (Ok counts) refusal = absurd (refusal refl)
amend_uncounted (Err why) refusal = record { kept = refl; anew = refl; moved = refl }

module _ (settings : Settings) (old : List ℕ) (edit : Edit) (log : List ℕ) where
  pub amend_rows_lem : (room : ℕ) → amendment_number (amend_answer settings old edit log room) ≡ first_row (amend_rows settings old edit log room)
  unfolding amendment_number amend_answer
  amend_rows_lem room = through amendment_number (verdict (amend_rows settings old edit log room)) Err (counts (new_cuts_of settings log) old edit)

  pub amend_leaves_lem : (list : List ℕ)
      → Leaves (amendment_number (amend_answer settings old edit log (length list))) 17 list (written_list (amended_list (new_cuts_of settings log) old edit) list)
      (amend_leaves settings old edit log list)
  unfolding amend_leaves
  amend_leaves_lem list = rw (amend_rows_lem (length list)) (refused_leaves (verdict (amend_rows settings old edit log (length list))) ListFull)

  roomy : (room : ℕ) → verdict (amend_rows settings old edit log room) ≡ Ok tt → length (amended_list (new_cuts_of settings log) old edit) ≤ room
  unfolding amend_rows
  roomy room fine = ltb-false _ _ (clear _ _ _ (clear _ _ _ (clear _ _ _ (clear _ _ _ (clear _ _ _ (clear _ _ _ fine).1).1).1).1).1).0

  -- the answer counts the three parts, front, recut and back, and they are written in this order
  pub amended_counted : (list : List ℕ) → amendment_number (amend_answer settings old edit log (length list)) ≡ 0
      → Counted (amend_answer settings old edit log (length list)) list (amend_leaves settings old edit log list)
      (front edit.at old) (recut (new_cuts_of settings log) old edit) (back (new_cuts_of settings log) old edit)
  unfolding amend_answer amend_leaves front_of recut_of back_of amended_list
  amended_counted list success =
      let fine = none_holds (verdict (amend_rows settings old edit log (length list))) (sym (amend_rows_lem (length list)) ∙ success) in
      record {
        counts = rw fine (record { kept = refl; anew = refl; moved = refl });
        written = rw fine (written_whole _ list (roomy (length list) fine));
      }

-- given the true list of an old log, and a log in which one stretch was replaced, amending answers and leaves what cutting the new log afresh
-- answers and leaves
pub amended : (settings : Settings) (a removed added b list : List ℕ) → length (a ++ (removed ++ b)) ≤ longest
    → let old = cut_list settings (a ++ (removed ++ b)) in
    let edit : Edit = record { at = length a; removed = length removed; added = length added } in
    let log = a ++ (added ++ b) in
    AsAfresh (amend_answer settings old edit log (length list)) (cut_log_answer settings log (length list)) (amend_leaves settings old edit log list) (cut_log_leaves settings log list)
amended settings a removed added b list short =
    let told = amend_cuts_afresh settings (replaced a removed added b) list short in record { number = told.0; count = told.1.0; left = told.1.1 }

-- new bytes outside the recut stretch cannot alter the answer, lengths being equal
module _ (settings : Settings) (old : List ℕ) (edit : Edit) (log log' : List ℕ) (same : length log ≡ length log')
    (agree : (i : ℕ) → restart edit.at old ≤ i → i < stretch_end (new_cuts_of settings log) old edit (length log) → get_or log i 0 ≡ get_or log' i 0) where
  pub stretch_only : (list : List ℕ)
      → (amend_answer settings old edit log (length list) ≡ amend_answer settings old edit log' (length list))
      × (amend_leaves settings old edit log list ≡ amend_leaves settings old edit log' list)
  unfolding amend_answer amend_leaves amend_rows amended_list verdict
  stretch_only list =
      by_test (in_range settings)
      (λ ok. by_test (edit_fits (length_of old) edit (length log))
      (λ fits. let (recuts, backs) = stretch_parts settings old edit log log' same agree ok fits in rw (recuts, backs, same) (refl, refl))
      (λ bad. by_test (well_formed settings.minimum settings.maximum old)
      (λ formed. rw (← same, ok, formed, bad) (refl, refl))
      (λ malformed. rw (ok, malformed) (refl, refl))))
      (λ bad. rw bad (refl, refl))

-- from any well-formed old list, true or not
module _ (settings : Settings) (old : List ℕ) (edit : Edit) (log : List ℕ) (formed : well_formed settings.minimum settings.maximum old ≡ true) where
  -- the three parts that the answer counts, and the recut stretch, are what they say
  pub amended_parts : FrontTold edit.at old (front edit.at old) (past_front edit.at old) (restart edit.at old)
      × Recut edit (past_front edit.at old) (length log) (new_cuts_of settings log (restart edit.at old)) (recut (new_cuts_of settings log) old edit)
      (back (new_cuts_of settings log) old edit) (stretch_end (new_cuts_of settings log) old edit (length log))
  unfolding recut back stretch_end
  amended_parts = (front_told settings.minimum settings.maximum edit.at old formed, recut_told edit _ (length log) (new_cuts_of settings log (restart edit.at old)))

  module _ (ok : in_range settings ≡ true) (fits : edit_fits (length_of old) edit (length log) ≡ true) where
    reach : (c : ℕ) → c ≤ length log → Reaches settings.minimum settings.maximum (length log) c (new_cuts_of settings log c)
    reach = let in-range = ranges settings ok in cuts_reach (mark settings log) settings.minimum settings.maximum (length log) in-range.positive in-range.ordered

    -- the amended list is well formed for the new length, so that amendments can be chained
    pub amended_again : length log ≤ longest
        → (well_formed settings.minimum settings.maximum (amended_list (new_cuts_of settings log) old edit) ≡ true)
        × (length_of (amended_list (new_cuts_of settings log) old edit) ≡ length log)
    amended_again short =
        let told = edit_told (length_of old) edit (length log) fits in (
          well_formed_again _ _ (length log) edit (new_cuts_of settings log) reach old formed told.0 told.1 short,
          new_length _ _ (length log) edit (new_cuts_of settings log) reach old formed told.0 told.1,
        )

    -- a meeting exists whenever the old log is not empty and the new one is longer than the last front cut
    pub meeting_exists : 0 < length_of old → restart edit.at old < length log → 0 < length (back (new_cuts_of settings log) old edit)
    meeting_exists =
        let told = edit_told (length_of old) edit (length log) fits in
        meeting_there _ _ (length log) edit (new_cuts_of settings log) reach old formed told.0 told.1
