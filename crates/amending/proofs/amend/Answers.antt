-- `amending::amend` meets its contract: each `return` stands at its row of the table, the tests above it passed.
use Rattle.std.specs.Prelude.{Err}
use Rattle.std.proofs.Common.{◌≡◌, ◌∙◌, ℕ, Bool, List, ap, refl, sym, not}
use Rattle.std.proofs.lemmas.Result.{err_from_is_err_and}
use borrow.Author.Tests.{le-ltb, lt-ltb}
use Rattle.laws.specs.Last.{last_or}
use Rattle.terms.specs.declared.Refusal.TheVariants.{ListFull}
use Rattle.terms.proofs.Ranges.{ranges}
use Rattle.terms.proofs.Verdicts.{asked, top, past, stopped, wrote}
use Rattle.lists.specs.WellFormed.{length_of}
use Rattle.amending.specs.declared.edits.Edit.{Edit}
use Rattle.amending.specs.Answers.{edit_fits, amend_rows, amend_answer, amend_leaves}
use Rattle.amending.specs.Inner.{parts_answer}
use Rattle.amending.proofs.amend.Goals as goal

-- the edit was asked of the old list's length
fit : (old : List ℕ) (edit : Edit) (bytes : ℕ) {n : ℕ} {r : Bool} → n ≡ last_or 0 old → r ≡ edit_fits n edit bytes → r ≡ edit_fits (length_of old) edit bytes
unfolding length_of
fit old edit bytes last told = told ∙ ap (λ (n : ℕ). edit_fits n edit bytes) last

pub returns-in_err-rule : goal.returns-in_err-rule
unfolding amend_answer amend_leaves amend_rows
returns-in_err-rule c =
    let p = err_from_is_err_and c.from_residual.result c.from_residual.ensures.1 in
    let why = c.in_err-rule.ensures.refused in
    let both = stopped ListFull Err _ _ _ top (ap not why.1) refl in
    record { answer = rw (p.1, p.2, why.0) both.0; list = both.1 }

pub returns-then-not-well_formed : goal.returns-then-not-well_formed
unfolding amend_answer amend_leaves amend_rows
returns-then-not-well_formed c =
    let ranged = ap not (rw c.in_ok-rule.ensures.ok at c.in_ok-rule.rule.ranged) in
    let both = stopped ListFull Err _ _ _ (past ranged top) (asked c.well_formed-2.ensures (ap not c.if-not-well_formed.true)) refl in
    record { answer = both.0; list = both.1 }

pub returns-then-not-fits : goal.returns-then-not-fits
unfolding amend_answer amend_leaves amend_rows
returns-then-not-fits c =
    let ranged = ap not (rw c.in_ok-rule.ensures.ok at c.in_ok-rule.rule.ranged) in
    let formed = asked c.well_formed-2.ensures (ap not c.if-not-well_formed.false) in
    let unfit = asked (fit _ _ _ c.last_of.ensures c.fits.ensures) (ap not c.if-not-fits.true) in
    let both = stopped ListFull Err _ _ _ (past ranged (past formed top)) unfit refl in
    record { answer = both.0; list = both.1 }

pub returns-then-bytes-gt-LONGEST : goal.returns-then-bytes-gt-LONGEST
unfolding amend_answer amend_leaves amend_rows
returns-then-bytes-gt-LONGEST c =
    let ranged = ap not (rw c.in_ok-rule.ensures.ok at c.in_ok-rule.rule.ranged) in
    let formed = asked c.well_formed-2.ensures (ap not c.if-not-well_formed.false) in
    let edited = asked (fit _ _ _ c.last_of.ensures c.fits.ensures) (ap not c.if-not-fits.false) in
    let both = stopped ListFull Err _ _ _ (past ranged (past formed (past edited top))) (lt-ltb _ _ c.if-bytes-gt-LONGEST.true) refl in
    record { answer = both.0; list = both.1 }

pub nonzero_div-bytes : goal.nonzero_div-bytes
nonzero_div-bytes c = (ranges _ (rw c.in_ok-rule.ensures.ok at c.in_ok-rule.rule.ranged)).positive

pub returns-then-places-bytes : goal.returns-then-places-bytes
unfolding amend_answer amend_leaves amend_rows
returns-then-places-bytes c =
    let ranged = ap not (rw c.in_ok-rule.ensures.ok at c.in_ok-rule.rule.ranged) in
    let formed = asked c.well_formed-2.ensures (ap not c.if-not-well_formed.false) in
    let edited = asked (fit _ _ _ c.last_of.ensures c.fits.ensures) (ap not c.if-not-fits.false) in
    let short = le-ltb _ _ c.if-bytes-gt-LONGEST.false in
    let both = stopped ListFull Err _ _ _ (past ranged (past formed (past edited (past short top)))) (lt-ltb _ _ c.if-places-bytes.true) refl in
    record { answer = both.0; list = both.1 }

pub write_parts-requires-clause-log_value : goal.write_parts-requires-clause-log_value
write_parts-requires-clause-log_value c = (sym (fit _ _ _ c.last_of.ensures c.fits.ensures) ∙ c.if-not-fits.false, c.if-bytes-gt-LONGEST.false)

pub returns : goal.returns
unfolding amend_answer amend_leaves amend_rows parts_answer
returns c =
    let ranged = ap not (rw c.in_ok-rule.ensures.ok at c.in_ok-rule.rule.ranged) in
    let formed = asked c.well_formed-2.ensures (ap not c.if-not-well_formed.false) in
    let edited = asked (fit _ _ _ c.last_of.ensures c.fits.ensures) (ap not c.if-not-fits.false) in
    let same = c.in_ok-rule.ensures.ok in
    let roomy = past (le-ltb _ _ c.if-bytes-gt-LONGEST.false) (past (le-ltb _ _ c.if-places-bytes.false) top) in
    let both = wrote ListFull Err _ _ _ (past ranged (past formed (past edited roomy))) (rw same at c.write_parts.ensures.answer) (rw same at c.write_parts.ensures.list) in
    record { answer = both.0; list = both.1 }
