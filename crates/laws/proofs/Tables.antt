-- A table's rule, proved at all of its entries by one test that is computed over the whole table.
use mathlib.Core.Path.{◌≡◌, refl, sym, ap, ap₂, ◌∙◌}
use mathlib.Core.Bool.{Bool, true, ◌&&◌}
use mathlib.Core.List.{List, [], ◌∷◌}
use Prim.Native.Nat.{ℕ, zero, suc, ◌+◌, ◌<◌}
use native.Mathlib.Nat.{add-zero, zero-add, add-suc, suc-add, le_of_suc-le-suc, not-suc-le-zero}
use lib.Dec.{T, eqb, eqb→eq}
use lib.Ieee.Fits.{and_l, and_r}
use lib.ListN.{length, get_or}
use Rattle.laws.specs.Tables.{tabulate}

-- each entry of the list is g of its place, counted from i
abbrev pub follows : (ℕ → ℕ) → ℕ → List ℕ → Bool
follows g i [] = true
follows g i (x ∷ xs) = eqb x (g i) && follows g (suc i) xs

-- the rule f that a table is to follow may be dear to compute: the test goes by another, g, that agrees with it
pub tabulated : (f g : ℕ → ℕ) → ((k : ℕ) → g k ≡ f k) → (xs : List ℕ) (i : ℕ) → T (follows g i xs) → xs ≡ tabulate f i (length xs)
unfolding tabulate
tabulated f g same [] i t = refl
tabulated f g same (x ∷ xs) i t =
    ap₂ ◌∷◌ (eqb→eq x (g i) (and_l (eqb x (g i)) (follows g (suc i) xs) t) ∙ same i)
    (tabulated f g same xs (suc i) (and_r (eqb x (g i)) (follows g (suc i) xs) t))

from_place : (f : ℕ → ℕ) (n i k : ℕ) → k < n → get_or (tabulate f i n) k 0 ≡ f (i + k)
unfolding tabulate
from_place f zero i k h = absurd (not-suc-le-zero h)
from_place f (suc n) i zero h = ap f (sym (add-zero i))
from_place f (suc n) i (suc k) h = from_place f n (suc i) k (le_of_suc-le-suc h) ∙ ap f (suc-add i k ∙ sym (add-suc i k))

pub get_d_tabulate : (f : ℕ → ℕ) (n k : ℕ) → k < n → get_or (tabulate f 0 n) k 0 ≡ f k
get_d_tabulate f n k h = from_place f n 0 k h ∙ ap f (zero-add k)
