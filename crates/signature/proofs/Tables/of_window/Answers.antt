-- Each byte that enters makes the signature that of one byte more.
use Rattle.std.proofs.Common.{refl}
use Rattle.signature.specs.Polynomials.{rem}
use Rattle.signature.specs.Signatures.{number, signature as sign, signature_of}
use Rattle.signature.proofs.Windows.{signature_lt, push_grows}
use Rattle.signature.proofs.Tables.of_window.Goals as goal

pub loop-byte-init : goal.loop-byte-init
unfolding signature_of sign number rem
loop-byte-init c = refl

pub push-signature-requires : goal.push-signature-requires
push-signature-requires c = signature_lt _ c.loop-byte.invariant

pub loop-byte-preserved : goal.loop-byte-preserved
loop-byte-preserved c =
    push_grows c.args.window.now (λ j. (c.type_inv.window j).fits) c.loop-byte.byte-index c.loop-byte-test.true _ _ c.loop-byte.invariant c.push-signature.ensures
