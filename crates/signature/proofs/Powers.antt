-- Powers of x reduced, and the rule of a table of their multiples.
use mathlib.Core.Path.{◌≡◌, sym, ap, ◌∙◌}
use mathlib.Core.List.{List}
use Prim.Native.Nat.{ℕ, ◌*◌, ◌^◌, ◌<◌}
use lib.Dec.{T}
use lib.ListN.{length}
use Rattle.laws.specs.Tables.{tabulate}
use Rattle.laws.proofs.Tables.{follows, tabulated}
use Rattle.signature.specs.Polynomials.{clmul, rem}
use Rattle.signature.proofs.Remainders.{rem_times_power}

-- the rule of a table, b times x^k reduced, tested by short products with x^k reduced: 256 divisions of k digits would be dear
pub multiples : (d l : ℕ) → l < 2 ^ d → (k power : ℕ) → rem d l (2 ^ k) ≡ power → (xs : List ℕ)
    → T (follows (λ b. rem d l (clmul b power)) 0 xs) → xs ≡ tabulate (λ b. rem d l (b * 2 ^ k)) 0 (length xs)
multiples d l low k power is-power xs test =
    tabulated (λ b. rem d l (b * 2 ^ k)) (λ b. rem d l (clmul b power))
    (λ b. ap (λ (p : ℕ). rem d l (clmul b p)) (sym is-power) ∙ rem_times_power d l low k b) xs 0 test
