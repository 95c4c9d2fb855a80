-- Each way stops at its row.
use Rattle.std.proofs.Common.{◌≡◌, ℕ, ◌-◌, Bool, true, not, List, length, sym, ap, ◌∙◌, arith}
use Rattle.terms.proofs.Verdicts.{top, past, judged_wrong}
use Rattle.sheet_format.specs.declared.trailer.Trailer.{Trailer}
use Rattle.sheet_format.specs.Forms.{cuts_form}
use Rattle.sheet_format.specs.Trailer.{trailer_right}
use Rattle.sheet_format.specs.Sheets.{checked}
use Rattle.sheet_format.specs.Clean.{trailer_of, sheet_in, has_trailer, clean_rows}
use Rattle.sheet_format.specs.Inner.{Placed}
use Rattle.sheet_format.proofs.Lent.{there, length_sheet_in}
use Rattle.sheet_format.proofs.Cleanly.{cleanly, placed, listed_by}
use Rattle.sheet_format.proofs.judging.judge.Goals as goal

-- what each call answered, said of the bytes
module _ (bytes : List ℕ) {t : Trailer} (read : t ≡ trailer_of bytes) where
  right_by : {r b : Bool} → r ≡ trailer_right (length bytes - 32) t → r ≡ b → trailer_right (length bytes - 32) (trailer_of bytes) ≡ b
  right_by told e = rw read at (sym told ∙ e)

  stands : {p r : Bool} → p ≡ has_trailer cuts_form.mark bytes → p ≡ true → r ≡ trailer_right (length bytes - 32) t → r ≡ true → Placed t.distance bytes
  stands present e told f = placed bytes read cuts_form.mark (sym present ∙ e) (right_by told f)

sound_by : (bytes : List ℕ) {sheet : List ℕ} {r b : Bool} → sheet ≡ sheet_in bytes → r ≡ checked cuts_form sheet → r ≡ b → checked cuts_form (sheet_in bytes) ≡ b
sound_by bytes lent told e = rw lent at (sym told ∙ e)

pub returns-then-not-has_trailer-clause-err : goal.returns-then-not-has_trailer-clause-err
unfolding clean_rows
returns-then-not-has_trailer-clause-err c = sym (judged_wrong top (ap not (sym c.has_trailer.ensures ∙ c.if-not-has_trailer.true)))

pub trailer_of-trailer-requires : goal.trailer_of-trailer-requires
trailer_of-trailer-requires c = (there c.args.bytes.now cuts_form.mark (sym c.has_trailer.ensures ∙ c.if-not-has_trailer.false)).0

pub overflow_sub-bytes : goal.overflow_sub-bytes
overflow_sub-bytes c = (there c.args.bytes.now cuts_form.mark (sym c.has_trailer.ensures ∙ c.if-not-has_trailer.false)).0

pub returns-then-not-is_right-clause-err : goal.returns-then-not-is_right-clause-err
unfolding clean_rows
returns-then-not-is_right-clause-err c =
    let present : has_trailer cuts_form.mark c.args.bytes.now ≡ true = sym c.has_trailer.ensures ∙ c.if-not-has_trailer.false in
    sym (judged_wrong (past (ap not present) top) (ap not (right_by _ c.trailer_of-trailer.ensures c.is_right.ensures c.if-not-is_right.true)))

pub sheet_in-requires : goal.sheet_in-requires
sheet_in-requires c = stands _ c.trailer_of-trailer.ensures c.has_trailer.ensures c.if-not-has_trailer.false c.is_right.ensures c.if-not-is_right.false

pub is_checked-requires : goal.is_checked-requires
is_checked-requires c =
    let placed = stands _ c.trailer_of-trailer.ensures c.has_trailer.ensures c.if-not-has_trailer.false c.is_right.ensures c.if-not-is_right.false in
    rw c.sheet_in.ensures (omega (arith, length_sheet_in _ placed))

pub returns-then-not-is_checked-clause-err : goal.returns-then-not-is_checked-clause-err
unfolding clean_rows
returns-then-not-is_checked-clause-err c =
    let present : has_trailer cuts_form.mark c.args.bytes.now ≡ true = sym c.has_trailer.ensures ∙ c.if-not-has_trailer.false in
    let right = right_by _ c.trailer_of-trailer.ensures c.is_right.ensures c.if-not-is_right.false in
    sym (judged_wrong (past (ap not present) (past (ap not right) top)) (ap not (sound_by _ c.sheet_in.ensures c.is_checked.ensures c.if-not-is_checked.true)))

pub body_in-body-requires : goal.body_in-body-requires
body_in-body-requires c =
    stands _ c.trailer_of-trailer.ensures c.has_trailer.ensures c.if-not-has_trailer.false c.is_right.ensures c.if-not-is_right.false

pub returns-then-not-is_well_formed-clause-err : goal.returns-then-not-is_well_formed-clause-err
unfolding clean_rows
returns-then-not-is_well_formed-clause-err c =
    let present : has_trailer cuts_form.mark c.args.bytes.now ≡ true = sym c.has_trailer.ensures ∙ c.if-not-has_trailer.false in
    let right = right_by _ c.trailer_of-trailer.ensures c.is_right.ensures c.if-not-is_right.false in
    let sound = sound_by _ c.sheet_in.ensures c.is_checked.ensures c.if-not-is_checked.false in
    let listed = listed_by _ c.trailer_of-trailer.ensures c.body_in-body.ensures c.is_well_formed.ensures in
    sym (judged_wrong (past (ap not present) (past (ap not right) (past (ap not sound) top))) (ap not (sym listed ∙ c.if-not-is_well_formed.true)))

pub returns-clause-ok : goal.returns-clause-ok
unfolding clean_rows
returns-clause-ok c =
    let present : has_trailer cuts_form.mark c.args.bytes.now ≡ true = sym c.has_trailer.ensures ∙ c.if-not-has_trailer.false in
    let right = right_by _ c.trailer_of-trailer.ensures c.is_right.ensures c.if-not-is_right.false in
    let sound = sound_by _ c.sheet_in.ensures c.is_checked.ensures c.if-not-is_checked.false in
    let listed = listed_by _ c.trailer_of-trailer.ensures c.body_in-body.ensures c.is_well_formed.ensures in
    (cleanly (record { present = present; right = right; sound = sound; listed = sym listed ∙ c.if-not-is_well_formed.false }), c.trailer_of-trailer.ensures, c.body_in-body.ensures)
