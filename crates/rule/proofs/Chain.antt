-- Chains over any `next` that rises and stays within n: opening, runs, taking the list apart at a cut, and runs of two rules that lie alike.
-- Nothing here knows of marks, so that the rule may change behind it.
use Prim.Native.Nat.{ℕ, zero, suc, ◌+◌, ◌-◌, ◌≤◌, ◌<◌}
use mathlib.Core.Path.{◌≡◌, refl, sym, ap, ◌∙◌, subst}
use mathlib.Core.List.{List, [], ◌∷◌, ◌++◌, map, append-nil}
use native.Mathlib.Omega.{arith}
use borrow.Author.Tests.{lt-ltb, le-ltb}
use Rattle.laws.proofs.Cases.{by_lt}
use Rattle.rule.specs.Rule.{chain, last_or}

-- l are the cuts after c, one after the other, and m is the last of them, or c where there are none
pub data Run (next : ℕ → ℕ) (n : ℕ) : ℕ → List ℕ → ℕ → Type 0 where
  stay : {c : ℕ} → Run next n c [] c
  onward : {c : ℕ} {l : List ℕ} {m : ℕ} → c < n → Run next n (next c) l m → Run next n c (next c ∷ l) m

-- every cut below n is followed by a higher one, at most n
pub record Rising (next : ℕ → ℕ) (n : ℕ) : Type 0 where
  pub rises : (c : ℕ) → c < n → c < next c
  pub within : (c : ℕ) → c < n → next c ≤ n

pub run_joined : {next : ℕ → ℕ} {n c m e : ℕ} {l k : List ℕ} → Run next n c l m → Run next n m k e → Run next n c (l ++ k) e
run_joined stay s = s
run_joined (onward h r) s = onward h (run_joined r s)

-- what follows the first cuts p of a run, or its first cut
pub run_after : {next : ℕ → ℕ} {n c m : ℕ} (p r : List ℕ) → Run next n c (p ++ r) m → Run next n (last_or c p) r m
unfolding last_or
run_after [] r o = o
run_after (x ∷ p) r (onward h o) = run_after p r o

pub run_tail : {next : ℕ → ℕ} {n c x m : ℕ} {r : List ℕ} → Run next n c (x ∷ r) m → Run next n x r m
run_tail (onward h o) = o

module _ (next : ℕ → ℕ) (n : ℕ) where
  one_more : (fuel c : ℕ) → c < n → chain next n (suc fuel) c ≡ next c ∷ chain next n fuel (next c)
  unfolding chain
  one_more fuel c h = rw (lt-ltb c n h, chain)

  pub at-end : (fuel c : ℕ) → n ≤ c → chain next n fuel c ≡ []
  unfolding chain
  at-end zero c h = refl
  at-end (suc fuel) c h = rw (le-ltb c n h, chain)

  module _ (ok : Rising next n) where
    -- fuel for the bytes that are left is enough, and more changes nothing
    enough : (j k c : ℕ) → n ≤ c + j → n ≤ c + k → chain next n j c ≡ chain next n k c
    enough zero k c hj hk = at-end zero c (omega arith) ∙ sym (at-end k c (omega arith))
    enough (suc j) zero c hj hk = at-end (suc j) c (omega arith) ∙ sym (at-end zero c (omega arith))
    enough (suc j) (suc k) c hj hk =
        by_lt c n
        (λ h. let up : c < next c = ok.rises c h in
        one_more j c h ∙ ap (λ l. next c ∷ l) (enough j k (next c) (omega arith) (omega arith)) ∙ sym (one_more k c h))
        (λ h. at-end (suc j) c h ∙ sym (at-end (suc k) c h))

    pub opened : (c : ℕ) → c < n → chain next n (n - c) c ≡ next c ∷ chain next n (n - next c) (next c)
    opened c h =
        let up : c < next c = ok.rises c h in
        enough (n - c) (suc (n - c)) c (omega arith) (omega arith) ∙ one_more (n - c) c h
        ∙ ap (λ l. next c ∷ l) (enough (n - c) (n - next c) (next c) (omega arith) (omega arith))

    -- the list, taken apart where a run of its cuts ends
    pub parted : {c m : ℕ} {l : List ℕ} → Run next n c l m → chain next n (n - c) c ≡ l ++ chain next n (n - m) m
    parted stay = refl
    parted (onward {c = c} h r) = opened c h ∙ ap (λ l. next c ∷ l) (parted r)

    ended : (c : ℕ) → c ≤ n → n ≤ c → Run next n c (chain next n (n - c) c) n
    ended c h e = rw (at-end (n - c) c e) (subst (λ m. Run next n c [] m) (omega arith) stay)

    by_fuel : (fuel c : ℕ) → c ≤ n → n ≤ c + fuel → Run next n c (chain next n (n - c) c) n
    by_fuel zero c h f = ended c h (omega arith)
    by_fuel (suc fuel) c h f =
        by_lt c n
        (λ below. let up : c < next c = ok.rises c below in
        rw (opened c below) (onward below (by_fuel fuel (next c) (ok.within c below) (omega arith))))
        (ended c h)

    -- all cuts after c are a run that ends at n
    pub whole : (c : ℕ) → c ≤ n → Run next n c (chain next n (n - c) c) n
    whole c h = by_fuel n c h (omega arith)

    -- a run to the log's end is all the cuts that follow
    pub run_all : {c : ℕ} {l : List ℕ} → Run next n c l n → chain next n (n - c) c ≡ l
    run_all {c} {l} r = parted r ∙ ap (λ k. l ++ k) (at-end (n - n) n (omega arith)) ∙ append-nil l

-- a run, moved, is one of another rule that lies alike: where x stands in the one log, x' stands in the other, and so their next cuts
module _ (next next' : ℕ → ℕ) (n n' a b from : ℕ) (ends : n + b ≡ n' + a)
    (alike : (x x' : ℕ) → from ≤ x → x < n → x + b ≡ x' + a → (from ≤ next x) × (next x + b ≡ next' x' + a)) where
  pub run_moved : {x m : ℕ} {l : List ℕ} (x' m' : ℕ) → from ≤ x → x + b ≡ x' + a → m + b ≡ m' + a → Run next n x l m
      → Run next' n' x' (map (λ y. y + b - a) l) m'
  run_moved x' m' far place goal stay = subst (λ m. Run next' n' x' [] m) (omega arith) stay
  run_moved x' m' far place goal (onward {c = x} below r) =
      let s = alike x x' far below place in
      let here : next x + b - a ≡ next' x' = omega arith in
      let inside : x' < n' = omega arith in
      rw here (onward inside (run_moved (next' x') m' s.0 s.1 goal r))
