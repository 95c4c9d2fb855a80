-- Well-formed lists as data: from b by allowed steps to z. What a judged list says of its entries, and how such lists are parted and joined.
use Prim.Native.Nat.{ℕ, zero, suc, ◌+◌, ◌-◌, ◌^◌, ◌≤◌, ◌<◌}
use mathlib.Core.Path.{◌≡◌, refl}
use mathlib.Core.Bool.{Bool, true, false}
use mathlib.Core.List.{List, [], ◌∷◌, ◌++◌}
use native.Mathlib.Omega.{arith}
use lib.ListN.{length, get_or, length-append}
use borrow.Author.Tests.{leb-true, ltb-true, le-leb, lt-ltb}
use Rattle.laws.specs.Last.{last_or}
use Rattle.laws.proofs.Cases.{both_true}
use Rattle.lists.specs.WellFormed.{step_fits, is_empty, steps_fit}

-- each step of l, from b on, rises and is at most hi, and is at least lo unless it reaches the end z
pub data Reaches (lo hi z : ℕ) : ℕ → List ℕ → Type 0 where
  there : Reaches lo hi z z []
  step : {b x : ℕ} {l : List ℕ} → b < x → x ≤ b + hi → (x < z → b + lo ≤ x) → Reaches lo hi z x l → Reaches lo hi z b (x ∷ l)

-- the entries rise one by one at least
pub reaches_long : {lo hi z b : ℕ} {l : List ℕ} → Reaches lo hi z b l → b + length l ≤ z
reaches_long there = omega arith
reaches_long (step up near far more) = omega (arith, reaches_long more)

pub reaches_last : {lo hi z b : ℕ} {l : List ℕ} → Reaches lo hi z b l → last_or b l ≡ z
unfolding last_or
reaches_last there = refl
reaches_last (step up near far more) = reaches_last more

-- each entry is at most the end, above b, and above the entries before it
pub entries_low : {lo hi z b : ℕ} {l : List ℕ} → Reaches lo hi z b l → (i : ℕ) → get_or l i 0 ≤ z
entries_low there i = omega arith
entries_low (step up near far more) zero = omega (arith, reaches_long more)
entries_low (step up near far more) (suc i) = entries_low more i

entries_above : {lo hi z b : ℕ} {l : List ℕ} → Reaches lo hi z b l → (i : ℕ) → i < length l → b < get_or l i 0
entries_above there i h = absurd (omega arith)
entries_above (step up near far more) zero h = up
entries_above (step up near far more) (suc i) h = omega (arith, entries_above more i (omega arith))

pub entries_rise : {lo hi z b : ℕ} {l : List ℕ} → Reaches lo hi z b l → (i j : ℕ) → i < j → j < length l → get_or l i 0 < get_or l j 0
entries_rise there i j h k = absurd (omega arith)
entries_rise (step up near far more) i zero h k = absurd (omega arith)
entries_rise (step up near far more) zero (suc j) h k = entries_above more j (omega arith)
entries_rise (step up near far more) (suc i) (suc j) h k = entries_rise more i j (omega arith) (omega arith)

-- what follows the first entries k
pub reaches_after : {lo hi z b : ℕ} (k r : List ℕ) → Reaches lo hi z b (k ++ r) → Reaches lo hi z (last_or b k) r
unfolding last_or
reaches_after [] r o = o
reaches_after (x ∷ k) r (step up near far more) = reaches_after k r more

-- first entries k that something follows may be followed by another list, to another end
pub reaches_on : {lo hi z z' b : ℕ} (k r : List ℕ) {r' : List ℕ} → (0 < length k → 0 < length r) → Reaches lo hi z b (k ++ r)
    → Reaches lo hi z' (last_or b k) r' → Reaches lo hi z' b (k ++ r')
unfolding last_or
reaches_on [] r some o new = new
reaches_on {z = z} (x ∷ k) r some (step up near far more) new =
    let follows : 0 < length r = some (omega arith) in
    let below : x < z = omega (arith, reaches_long more, length-append k r) in
    step up near (λ h. far below) (reaches_on k r (λ h. follows) more new)

module _ (lo hi : ℕ) where
  step_told : (last : Bool) (b x : ℕ) → step_fits lo hi last b x ≡ true → (b < x) × (x ≤ b + hi) × (last ≡ false → b + lo ≤ x)
  unfolding step_fits
  step_told last b x h =
      let p = both_true h in
      let q = both_true p.1 in
      let up : b < x = ltb-true b x p.0 in
      let near : x - b ≤ hi = leb-true (x - b) hi q.0 in
      (up, omega arith, λ e. omega (arith, leb-true lo (x - b) (rw e at q.1)))

  -- a list that is judged well formed, and one that is to be
  pub reaches : (b : ℕ) (l : List ℕ) → steps_fit lo hi b l ≡ true → Reaches lo hi (last_or b l) b l × (last_or b l ≤ 2 ^ 40)
  unfolding steps_fit is_empty last_or
  reaches b [] h = (there, leb-true _ _ h)
  reaches b (x ∷ []) h =
      let p = both_true h in
      let s = step_told true b x p.0 in
      (step s.0 s.1 (λ k. absurd (omega arith)) there, leb-true _ _ p.1)
  reaches b (x ∷ y ∷ l) h =
      let p = both_true h in
      let s = step_told false b x p.0 in
      let more = reaches x (y ∷ l) p.1 in
      (step s.0 s.1 (λ k. s.2 refl) more.0, more.1)

  pub fits : {z b : ℕ} {l : List ℕ} → z ≤ 2 ^ 40 → Reaches lo hi z b l → steps_fit lo hi b l ≡ true
  unfolding steps_fit is_empty step_fits
  fits low there = le-leb _ _ low
  fits low (step {b = b} {x = x} up near far there) =
      let close : x - b ≤ hi = omega arith in
      rw (lt-ltb b x up, le-leb (x - b) hi close, le-leb x (2 ^ 40) low)
  fits low (step {b = b} {x = x} up near far (step up' near' far' more)) =
      let close : x - b ≤ hi = omega arith in
      let full : lo ≤ x - b = omega (arith, far (omega (arith, reaches_long more))) in
      rw (lt-ltb b x up, le-leb (x - b) hi close, le-leb lo (x - b) full) (fits low (step up' near' far' more))
