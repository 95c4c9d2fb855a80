-- The low bits of a signature as the code masks them.
use Prim.Native.Nat.{ℕ, ◌*◌, ◌-◌, ◌%◌, ◌^◌, ◌≤◌}
use mathlib.Core.Path.{◌≡◌, ap, ◌∙◌}
use native.Mathlib.Omega.{arith}
use lib.Bits.{bit_and, and_mask}
use lib.Dec.{lit<}
use lib.Pow.{shl_exact}
use Rattle.terms.specs.declared.Settings.{Settings}

-- the bit above the mask, as it is shifted in 32 bits
bit_above : (k : ℕ) → k ≤ 31 → 1 * 2 ^ k % 2 ^ 32 ≡ 2 ^ k
bit_above k h = shl_exact {a = 1} 1 k 32 (lit< tt) (omega arith) ∙ omega arith

pub masked : (s : Settings) (signature : ℕ) → s.bits ≤ 31 → bit_and signature (1 * 2 ^ s.bits % 2 ^ 32 - 1) ≡ signature % 2 ^ s.bits
masked s signature few = ap (λ (bit : ℕ). bit_and signature (bit - 1)) (bit_above s.bits few) ∙ and_mask signature s.bits
