-- Demand 3 over bytes: amending the true list of an old log answers and leaves what cutting the new log afresh does.
use Rattle.std.specs.Prelude.{Ok, Err}
use Prim.Native.Nat.{ℕ, ◌+◌, ◌-◌, ◌≤◌, ◌<◌}
use mathlib.Core.Path.{◌≡◌, refl, sym, ◌∙◌}
use mathlib.Core.Bool.{true}
use mathlib.Core.List.{List, ◌++◌, append_assoc}
use native.Mathlib.Omega.{arith}
use lib.ListN.{length, get_or, length-append, get_or-append}
use lib.Seq.{get_or-append-add}
use Rattle.laws.proofs.Cases.{by_lt, by_test}
use Rattle.terms.specs.declared.Settings.{Settings}
use Rattle.terms.specs.declared.Refusal.TheVariants.{SettingsOutOfRange}
use Rattle.terms.specs.Rows.{Verdict}
use Rattle.terms.specs.Settings.{in_range}
use Rattle.terms.specs.Answers.{answer_number, answer_count, longest}
use Rattle.terms.specs.Rows.{verdict, ruled}
use Rattle.terms.proofs.Ranges.{ranges}
use Rattle.lists.specs.WellFormed.{length_of}
use Rattle.cutting.specs.Marks.{mark, cut_list}
use Rattle.cutting.specs.Calls.{cut_log_rows, cut_log_answer, cut_log_leaves}
use Rattle.cutting.proofs.Marked.{mark_low, marks_by_bytes}
use Rattle.cutting.proofs.Reaching.{true_list}
use Rattle.amending.specs.declared.edits.Edit.{Edit}
use Rattle.amending.specs.Answers.{amended}
use Rattle.amending.specs.Parts.{amended_list}
use Rattle.amending.specs.Answers.{amendment_number, front_of, recut_of, back_of, new_cuts_of, counts, edit_fits, amend_rows, amend_answer, amend_leaves}
use Rattle.amending.proofs.Fitting.{edit_fits_lem}
use Rattle.amending.proofs.Amended.{amended_by_marks}

-- the new log is the old one with the edit made: the bytes below the place of the change and those past it are the same
pub record Replaced (edit : Edit) (log log' : List ℕ) : Type 0 where
  pub inside : edit.at + edit.removed ≤ length log
  pub ends : length log + edit.added ≡ length log' + edit.removed
  pub low : (i : ℕ) → i < edit.at → get_or log i 0 ≡ get_or log' i 0
  pub high : (i j : ℕ) → edit.at + edit.removed ≤ i → i + edit.added ≡ j + edit.removed → get_or log i 0 ≡ get_or log' j 0

-- one stretch of a log, removed, is replaced by another, added, between a and b
pub replaced : (a removed added b : List ℕ)
    → Replaced (record { at = length a; removed = length removed; added = length added }) (a ++ (removed ++ b)) (a ++ (added ++ b))
replaced a removed added b = record {
  inside = simp length-append (omega arith);
  ends = simp length-append (omega arith);
  low = λ i h. get_or-append a (removed ++ b) 0 i h ∙ sym (get_or-append a (added ++ b) 0 i h);
  high = λ i j far place. let k : ℕ = i - (length a + length removed) in past removed i k (omega arith) ∙ sym (past added j k (omega arith));
}
  where
    past : (c : List ℕ) (q i : ℕ) → q ≡ length a + length c + i → get_or (a ++ (c ++ b)) q 0 ≡ get_or b i 0
    past c q i e = rw (e, ← append_assoc, ← length-append) (get_or-append-add (a ++ c) b i 0)

-- a verdict on a list and on its three parts: the same number, and the counts add up
same_number : (v : Verdict) (f r b n : ℕ) → amendment_number (ruled v Err (amended f r b)) ≡ answer_number (ruled v Err (Ok n))
unfolding amendment_number answer_number
same_number (Ok tt) f r b n = refl
same_number (Err why) f r b n = refl

same_count : (v : Verdict) (new_cuts : ℕ → List ℕ) (old : List ℕ) (edit : Edit) {l : List ℕ} → amended_list new_cuts old edit ≡ l
    → let answer = ruled v Err (counts new_cuts old edit) in front_of answer + recut_of answer + back_of answer ≡ answer_count (ruled v Err (Ok (length l)))
unfolding front_of recut_of back_of answer_count amended_list
same_count (Ok tt) new_cuts old edit e = rw (← e, length-append, length-append) (omega arith)
same_count (Err why) new_cuts old edit e = refl

module _ (settings : Settings) {edit : Edit} {log log' : List ℕ} (r : Replaced edit log log') where
  afresh : in_range settings ≡ true → amended_list (new_cuts_of settings log') (cut_list settings log) edit ≡ cut_list settings log'
  afresh ok =
      let in-range = ranges settings ok in
      amended_by_marks (mark settings log) (mark settings log') settings.minimum settings.maximum (length log) (length log') edit
      in-range.window-fits in-range.ordered r.inside r.ends
      (λ q h. by_lt q 48
      (λ short. mark_low settings log q short ∙ sym (mark_low settings log' q short))
      (λ far. marks_by_bytes settings log log' q q far (omega arith) far (omega arith) (λ i k. r.low (q - 48 + i) (omega arith))))
      (λ q q' far inside place. marks_by_bytes settings log log' q q' (omega arith) inside (omega arith) (omega arith)
      (λ i k. r.high (q - 48 + i) (q' - 48 + i) (omega arith) (omega arith)))

  module _ (list : List ℕ) (short : length log ≤ longest) where
    -- amending is refused where cutting afresh is, by the same row
    same_verdict : verdict (amend_rows settings (cut_list settings log) edit log' (length list)) ≡ verdict (cut_log_rows settings log' (length list))
    unfolding amend_rows cut_log_rows verdict
    same_verdict =
        by_test (in_range settings)
        (λ ok. let known = true_list settings log ok short in
        let edited : edit_fits (length_of (cut_list settings log)) edit (length log') ≡ true =
        edit_fits_lem _ _ _ (omega (arith, known.1)) (omega (arith, known.1)) (omega (arith, known.1)) in
        rw (ok, known.0, edited, afresh ok))
        (λ bad. rw bad)

    -- the number is that of cutting the new log afresh, the counts add up to its cuts, and the lent list is left the same, refusals included
    pub amend_cuts_afresh : let answer = amend_answer settings (cut_list settings log) edit log' (length list) in
        let whole = cut_log_answer settings log' (length list) in
        (amendment_number answer ≡ answer_number whole)
        × ((front_of answer + recut_of answer + back_of answer ≡ answer_count whole)
        × (amend_leaves settings (cut_list settings log) edit log' list ≡ cut_log_leaves settings log' list))
    unfolding amend_answer amend_leaves cut_log_answer cut_log_leaves front_of recut_of back_of answer_count
    amend_cuts_afresh =
        rw same_verdict (
          same_number (verdict (cut_log_rows settings log' (length list))) _ _ _ _,
          by_test (in_range settings)
              (λ ok. (same_count (verdict (cut_log_rows settings log' (length list))) _ _ _ (afresh ok), rw (afresh ok)))
              (λ bad. let out : verdict (cut_log_rows settings log' (length list)) ≡ Err SettingsOutOfRange = unfold cut_log_rows verdict in rw bad in
              rw out (refl, refl)),
        )
