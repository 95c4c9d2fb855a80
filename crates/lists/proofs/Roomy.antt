-- The room for a list of cuts: all steps but the last are at least lo, so floor((z - b) / lo) + 1 places are enough.
use Prim.Native.Nat.{ℕ, ◌+◌, ◌-◌, ◌*◌, ◌/◌, ◌≤◌, ◌<◌}
use mathlib.Core.Path.{◌≡◌}
use mathlib.Core.List.{List}
use native.Mathlib.Nat.{suc-mul, zero-mul, one-mul, le-div_iff_mul-le}
use native.Mathlib.Omega.{arith}
use lib.ListN.{length}
use Rattle.laws.proofs.Cases.{by_lt}
use Rattle.lists.proofs.Reaching.{Reaches, there, step, reaches_long}

covered : {lo hi z b : ℕ} {l : List ℕ} → Reaches lo hi z b l → b + length l * lo ≤ z + lo
covered {lo} there = omega (arith, zero-mul lo)
covered {lo} {z = z} (step {b = b} {x = x} {l = l} up near far more) =
    by_lt x z
    (λ below. omega (arith, far below, covered more, suc-mul (length l) lo))
    (λ past. let none : length l ≡ 0 = omega (arith, reaches_long more) in rw none (omega (arith, reaches_long more, one-mul lo)))

pub reaches_room : {lo hi z b : ℕ} {l : List ℕ} → 0 < lo → Reaches lo hi z b l → length l ≤ (z - b) / lo + 1
reaches_room {lo} positive there = omega arith
reaches_room {lo} {z = z} {b} positive (step {l = l} up near far more) =
    let all = covered (step up near far more) in
    let few : length l ≤ (z - b) / lo = (le-div_iff_mul-le positive).1 (omega (arith, all, reaches_long more, suc-mul (length l) lo)) in
    omega arith
