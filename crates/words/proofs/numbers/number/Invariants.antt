-- The number so far is that of the bytes so far, and within their range.
use Rattle.std.proofs.Common.{◌≡◌, ◌*◌, ◌^◌, ◌<◌, take}
use Rattle.words.specs.Numbers.{number}
use Rattle.words.proofs.numbers.number.Given as goal

abbrev pub invariant-loop-byte : goal.invariant-loop-byte
invariant-loop-byte l = record { value : l.high ≡ number (take l.byte-index l.bytes); small : l.high < 2 ^ (8 * l.byte-index) }
