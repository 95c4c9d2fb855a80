-- The signature is that of the bytes passed.
use Rattle.std.proofs.Common.{◌≡◌, take}
use Rattle.signature.specs.Signatures.{signature_of}
use Rattle.signature.proofs.Tables.of_window.Given as goal

abbrev pub invariant-loop-byte : goal.invariant-loop-byte
invariant-loop-byte l = l.signature ≡ signature_of (take l.byte-index l.window)
