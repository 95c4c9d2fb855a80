-- The rule's next cut: document 01's sentence holds of it and of nothing else; its bounds; what it depends on; how it moves.
use Prim.Native.Nat.{ℕ, suc, ◌+◌, ◌-◌, ◌≤◌, ◌<◌, min}
use mathlib.Core.Path.{◌≡◌, refl, sym, ap, ◌∙◌, subst}
use mathlib.Core.Bool.{Bool}
use native.Mathlib.Omega.{arith}
use Rattle.laws.proofs.Cases.{by_lt}
use Rattle.rule.specs.Rule.{first_mark, next, NextCut, first-mark, forced, log_ends}
use Rattle.rule.proofs.First.{First, at_mark, none_there, first-is, first_at, first-none, first_moves}
use Rattle.rule.proofs.Chain.{Rising}

module _ (mark : ℕ → Bool) (lo hi n c : ℕ) where
  pub next_is : NextCut mark lo hi n c (next mark lo hi n c)
  unfolding next
  next_is = told (first-is mark (min (c + hi) n) (suc (min (c + hi) n) - (c + lo)) (c + lo))
    where
      told : {r : ℕ} → First mark (suc (min (c + hi) n) - (c + lo)) (c + lo) (min (c + hi) n) r → NextCut mark lo hi n c r
      told (at_mark r p k m u) = first-mark r p (omega arith) (omega arith) m u
      told (none_there u) =
          by_lt n (c + hi)
          (λ h. subst (λ r. NextCut mark lo hi n c r) (omega arith) (log_ends h (λ q a b. u q a (omega arith))))
          (λ h. subst (λ r. NextCut mark lo hi n c r) (omega arith) (forced h (λ q a b. u q a (omega arith))))

  pub next_only : {r : ℕ} → NextCut mark lo hi n c r → next mark lo hi n c ≡ r
  unfolding next
  next_only (first-mark r a b e m u) = first_at mark _ _ (c + lo) r a (omega arith) m u
  next_only (forced h u) = first-none mark _ _ (c + lo) (λ q a b. u q a (omega arith)) ∙ omega arith
  next_only (log_ends h u) = first-none mark _ _ (c + lo) (λ q a b. u q a (omega arith)) ∙ omega arith

  -- the bounds of a piece: at most maximum, and at least minimum unless the log ends with it
  pub record Step (r : ℕ) : Type 0 where
    pub inside : r ≤ n
    pub at_most : r ≤ c + hi
    pub at_least : r < n → c + lo ≤ r
    pub onward : 0 < lo → c < n → c < r

  pub next_step : lo ≤ hi → Step (next mark lo hi n c)
  next_step order = bounds next_is
    where
      bounds : {r : ℕ} → NextCut mark lo hi n c r → Step r
      bounds (first-mark r a b e m u) = omega arith
      bounds (forced h u) = omega arith
      bounds (log_ends h u) = omega arith

pub rising : (mark : ℕ → Bool) (lo hi n : ℕ) → 0 < lo → lo ≤ hi → Rising (next mark lo hi n) n
rising mark lo hi n positive order =
    record {
      rises = λ c h. (next_step mark lo hi n c order).onward positive h;
      within = λ c h. (next_step mark lo hi n c order).inside;
    }

-- the tail law: the next cut depends on what is left of the log and on the marks that lie there, wherever in a log it lies
module _ (mark mark' : ℕ → Bool) (lo hi n n' a b : ℕ) (ends : n + b ≡ n' + a) where
  pub next_moves : (c c' : ℕ) → c + b ≡ c' + a
      → ((x : ℕ) → lo ≤ x → x ≤ hi → c + x ≤ n → mark (c + x) ≡ mark' (c' + x))
      → next mark lo hi n c + b ≡ next mark' lo hi n' c' + a
  unfolding next
  next_moves c c' e same =
      let k : ℕ = suc (min (c + hi) n) - (c + lo) in
      first_moves mark mark' a b (min (c + hi) n) (min (c' + hi) n') (omega arith) k (c + lo) (c' + lo) (omega arith)
      (λ i h. ap mark (omega arith) ∙ same (lo + i) (omega arith) (omega arith) (omega arith) ∙ ap mark' (omega arith))
      ∙ ap (λ j. first_mark mark' j (c' + lo) (min (c' + hi) n') + a) (omega arith)

-- a next cut is made again in another log that is marked alike up to it: at most as far as that log goes, and at its own log's end only
-- where the two end together
pub next_again : (mark mark' : ℕ → Bool) (lo hi n n' c : ℕ) → next mark lo hi n c ≤ n' → (next mark lo hi n c ≡ n → n ≡ n')
    → ((q : ℕ) → c + lo ≤ q → q ≤ next mark lo hi n c → mark q ≡ mark' q) → next mark' lo hi n' c ≡ next mark lo hi n c
next_again mark mark' lo hi n n' c low End-same same = next_only mark' lo hi n' c (again (next_is mark lo hi n c) low End-same same)
  where
    again : {r : ℕ} → NextCut mark lo hi n c r → r ≤ n' → (r ≡ n → n ≡ n') → ((q : ℕ) → c + lo ≤ q → q ≤ r → mark q ≡ mark' q)
        → NextCut mark' lo hi n' c r
    again (first-mark r a b h m u) low End-same same =
        first-mark r a b low (sym (same r a (omega arith)) ∙ m) (λ q p k. sym (same q p (omega arith)) ∙ u q p k)
    again (forced h u) low End-same same = forced low (λ q p k. sym (same q p (omega arith)) ∙ u q p k)
    again (log_ends h u) low End-same same =
        let ends : n ≡ n' = End-same refl in
        let short : n' < c + hi = omega arith in
        subst (λ r. NextCut mark' lo hi n' c r) (sym ends) (log_ends short (λ q p k. sym (same q p (omega arith)) ∙ u q p (omega arith)))
