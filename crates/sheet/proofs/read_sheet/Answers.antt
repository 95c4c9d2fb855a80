-- The bytes decide, or else the label, or else the room.
use Rattle.std.proofs.Common.{◌≡◌, ◌<◌, ◌≤◌, Err, length, ap, arith, rules}
use Rattle.terms.specs.Labels.{byte_of}
use Rattle.sheet_format.specs.declared.trailer.Trailer.{Trailer}
use Rattle.sheet_format.specs.Forms.{cuts_form}
use Rattle.sheet_format.specs.Clean.{trailer_of, body_in, list_in}
use Rattle.sheet_format.proofs.Offsets.{length_offsets}
use Rattle.sheet_format.proofs.Cleanly.{clean, length_list}
use Rattle.sheet.specs.Read.{read_sheet_answer, read_sheet_leaves}
use Rattle.sheet.proofs.Reading.{bytes_refuse, label_refuses, room_refuses, none_refuses, own_label}
use Rattle.sheet.proofs.read_sheet.Goals as goal

pub returns-in_err-found : goal.returns-in_err-found
unfolding read_sheet_answer read_sheet_leaves
returns-in_err-found c =
    let same : c.from_residual.result ≡ Err c.in_err-found.field-0.0 = search rules in
    let refused = bytes_refuse c.args.bytes.now c.args.asked (length c.args.list.now) c.in_err-found.ensures.err in
    record { answer = rw (same, refused); list = rw refused }

pub returns-then-trailer-wanted : goal.returns-then-trailer-wanted
unfolding read_sheet_answer read_sheet_leaves
returns-then-trailer-wanted c =
    let found = c.in_ok-found.ensures.ok in
    let other : (trailer_of c.args.bytes.now).label ≡ byte_of c.args.asked → ⊥ = rw (found.1, c.from-wanted.ensures) at c.if-trailer-wanted.true in
    let refused = label_refuses c.args.bytes.now c.args.asked (length c.args.list.now) found.0 other in
    record { answer = rw refused; list = rw refused }

pub returns-then-list-trailer : goal.returns-then-list-trailer
unfolding read_sheet_answer read_sheet_leaves
returns-then-list-trailer c =
    let found = c.in_ok-found.ensures.ok in
    let own : (trailer_of c.args.bytes.now).label ≡ byte_of c.args.asked = cc (ap (λ (t : Trailer). t.label) found.1) in
    let short : length c.args.list.now < (trailer_of c.args.bytes.now).count = rw found.1 at c.if-list-trailer.true in
    let refused = room_refuses c.args.bytes.now c.args.asked (length c.args.list.now) found.0 own short in
    record { answer = rw refused; list = rw refused }

pub take_offsets-requires : goal.take_offsets-requires
unfolding list_in
take_offsets-requires c =
    let found = c.in_ok-found.ensures.ok in
    let fits : (trailer_of c.args.bytes.now).count ≤ length c.args.list.now = rw found.1 at c.if-list-trailer.false in
    let counted = length_list cuts_form c.args.bytes.now (clean cuts_form c.args.bytes.now found.0) in
    rw found.2 (omega (arith, length_offsets (body_in c.args.bytes.now), counted, fits))

pub returns : goal.returns
unfolding read_sheet_answer read_sheet_leaves list_in
returns c =
    let found = c.in_ok-found.ensures.ok in
    let own : (trailer_of c.args.bytes.now).label ≡ byte_of c.args.asked = cc (ap (λ (t : Trailer). t.label) found.1) in
    let fits : (trailer_of c.args.bytes.now).count ≤ length c.args.list.now = rw found.1 at c.if-list-trailer.false in
    let none = none_refuses c.args.bytes.now c.args.asked (length c.args.list.now) found.0 own fits in
    record { answer = rw (none, own_label c.args.asked own, found.1); list = rw (none, c.take_offsets.ensures, found.2) }
