-- The fields are written after the body, then the check word of both.
use Rattle.std.proofs.Common.{◌≡◌, length, refl, ◌∙◌, sym, arith}
use Rattle.laws.proofs.Writing.{over_full}
use Rattle.sheet_format.specs.Forms.{cuts_form}
use Rattle.sheet_format.specs.Trailer.{trailer_for}
use Rattle.sheet_format.proofs.Parts.{body_sealed, length_fields}
use Rattle.sheet_format.proofs.sealing.seal.Goals as goal

pub put-requires : goal.put-requires
unfolding trailer_for
put-requires c = (
  refl,
  rw c.of_sheet-trailer.ensures c.requires.0,
  omega (arith, c.requires.1, c.split_at_mut-front.ensures.front_len, c.split_at_mut-fields.ensures.back_len),
)

pub returns : goal.returns
returns c =
    let trailer = trailer_for c.args.settings c.args.label c.args.count in
    let room : length c.split_at_mut-fields.result.1.now ≡ 28 = omega (arith, c.requires.1, c.split_at_mut-front.ensures.front_len, c.split_at_mut-fields.ensures.back_len) in
    body_sealed c.args.settings c.args.label c.args.count c.args.bytes.now c.requires.1
    (rw c.split_at_mut-front.ensures.front at c.split_at_mut-fields.ensures.front)
    c.split_at_mut-front.ensures.back
    (rw c.of_sheet-trailer.ensures at c.put.ensures ∙ over_full _ _ (room ∙ sym (length_fields cuts_form.mark trailer refl)))
    (rw (c.from.ensures, c.check_word.ensures) at c.put_number.ensures)
