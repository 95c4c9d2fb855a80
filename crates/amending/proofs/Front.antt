-- The front of an old list: the cuts at most s but the old end, and what follows them.
use Prim.Native.Nat.{ℕ, suc, ◌+◌, ◌-◌, ◌≤◌, ◌<◌}
use mathlib.Core.Path.{◌≡◌, refl, ap}
use mathlib.Core.List.{List, [], ◌∷◌, ◌++◌}
use native.Mathlib.Omega.{arith}
use lib.Dec.{leb}
use lib.ListN.{length, take, drop}
use borrow.Author.Tests.{le-leb, lt-leb}
use Rattle.laws.proofs.Cases.{by_lt}
use Rattle.laws.specs.Last.{last_or}
use Rattle.amending.specs.Parts.{front_count, front, past_front, restart, until}

-- a list, its front and what follows it
pub data Front (s : ℕ) : List ℕ → List ℕ → List ℕ → Type 0 where
  none_old : Front s [] [] []
  old_last : {x : ℕ} → Front s (x ∷ []) [] (x ∷ [])
  beyond : {x y : ℕ} {l : List ℕ} → s < x → Front s (x ∷ y ∷ l) [] (x ∷ y ∷ l)
  kept : {x y : ℕ} {l f p : List ℕ} → x ≤ s → Front s (y ∷ l) f p → Front s (x ∷ y ∷ l) (x ∷ f) p

module _ (s : ℕ) where
  one_kept : (x y : ℕ) (l : List ℕ) → x ≤ s → front_count s (x ∷ y ∷ l) ≡ suc (front_count s (y ∷ l))
  unfolding front_count
  one_kept x y l h = rw (le-leb x s h, front_count)

  none_kept : (x y : ℕ) (l : List ℕ) → s < x → front_count s (x ∷ y ∷ l) ≡ 0
  unfolding front_count
  none_kept x y l h = rw (lt-leb x s h, front_count)

  counted : (l : List ℕ) → Front s l (take (front_count s l) l) (drop (front_count s l) l) × (front_count s l ≤ length l)
  unfolding front_count
  counted [] = (none_old, omega arith)
  counted (x ∷ []) = (old_last, omega arith)
  counted (x ∷ y ∷ l) =
      let more = counted (y ∷ l) in
      by_lt s x
      (λ h. rw (none_kept x y l h) (beyond h, omega arith))
      (λ h. rw (one_kept x y l h) (kept h more.0, omega (arith, more.1)))

  pub count_fits : (l : List ℕ) → front_count s l ≤ length l
  count_fits l = (counted l).1

  pub front_is : (old : List ℕ) → Front s old (front s old) (past_front s old)
  unfolding front past_front
  front_is old = (counted old).0

  -- the count as the code finds it: without the old end, the cuts before the first that is past s
  pub count_is : (l : List ℕ) → length (until (leb (s + 1)) (take (length l - 1) l)) ≡ front_count s l
  unfolding front_count until
  count_is [] = refl
  count_is (x ∷ []) = refl
  count_is (x ∷ y ∷ l) =
      let more : length (until (leb (s + 1)) (take (length (y ∷ l) - 1) (y ∷ l))) ≡ front_count s (y ∷ l) = count_is (y ∷ l) in
      let place : length (x ∷ y ∷ l) - 1 ≡ suc (length (y ∷ l) - 1) = omega arith in
      by_lt s x
      (λ h. rw (place, none_kept x y l h, le-leb (s + 1) x (omega arith), until))
      (λ h. rw (place, one_kept x y l h, lt-leb (s + 1) x (omega arith), until) (ap suc more))

pub front_joined : {s : ℕ} {l f p : List ℕ} → Front s l f p → f ++ p ≡ l
front_joined none_old = refl
front_joined old_last = refl
front_joined (beyond h) = refl
front_joined (kept {x = x} h f) = ap (λ k. x ∷ k) (front_joined f)

-- cutting restarts at or below s
restarts_low : {s b : ℕ} {l f p : List ℕ} → b ≤ s → Front s l f p → last_or b f ≤ s
unfolding last_or
restarts_low low none_old = low
restarts_low low old_last = low
restarts_low low (beyond h) = low
restarts_low low (kept h f) = restarts_low h f

pub restart_low : (s : ℕ) (old : List ℕ) → restart s old ≤ s
unfolding restart
restart_low s old = restarts_low (omega arith) (front_is s old)

-- the old end is left, if there is one
pub past_some : {s : ℕ} {l f p : List ℕ} → Front s l f p → 0 < length l → 0 < length p
past_some none_old h = h
past_some old_last h = h
past_some (beyond h) k = k
past_some (kept h f) k = past_some f (omega arith)
