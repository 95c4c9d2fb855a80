-- The offsets of a body: how many there are.
use Rattle.std.proofs.Common.{◌≡◌, ℕ, ◌/◌, List, length}
use Rattle.words.specs.Numbers.{numbers_of}
use Rattle.words.proofs.BigEndian.{length-numbers}

pub length_offsets : (body : List ℕ) → length (numbers_of 8 body) ≡ length body / 8
unfolding numbers_of
length_offsets body = length-numbers 8 (length body / 8) body
