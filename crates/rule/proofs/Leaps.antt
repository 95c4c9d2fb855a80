-- Where a hop ends: at the first mark, where the cut is forced, or past an offset. It depends on the marks up to there alone.
use Prim.Native.Nat.{ℕ, suc, ◌+◌, ◌-◌, ◌≤◌, ◌<◌}
use mathlib.Core.Path.{◌≡◌, sym, ◌∙◌}
use mathlib.Core.Bool.{Bool, true}
use mathlib.Core.List.{List}
use native.Mathlib.Omega.{arith}
use Rattle.laws.proofs.Cases.{by_lt, clash}
use Rattle.rule.specs.Rule.{hop, cuts_up_to, Unmarked}
use Rattle.rule.proofs.First.{First, at_mark, none_there, first-is, first_at, first-none}
use Rattle.rule.proofs.Hops.{UpTo, past, leap, hop_to, up_to, listed, hop_rises}

module _ (mark : ℕ → Bool) (lo hi c : ℕ) where
  pub first_hop : (b : ℕ) → c + lo ≤ b → b ≤ c + hi → mark b ≡ true → Unmarked mark (c + lo) b → hop mark lo hi c ≡ b
  unfolding hop
  first_hop b far near m u = first_at mark (c + hi) (suc hi - lo) (c + lo) b far (omega arith) m u

  pub forced_hop : Unmarked mark (c + lo) (suc (c + hi)) → hop mark lo hi c ≡ c + hi
  unfolding hop
  forced_hop u = first-none mark (c + hi) (suc hi - lo) (c + lo) (λ q x y. u q x (omega arith))

  pub past_hop : (e : ℕ) → e < c + hi → Unmarked mark (c + lo) (suc e) → e < hop mark lo hi c
  past_hop e near clear = unfold hop in passed (first-is mark (c + hi) (suc hi - lo) (c + lo))
    where
      passed : {r : ℕ} → First mark (suc hi - lo) (c + lo) (c + hi) r → e < r
      passed (at_mark r a b m u) = by_lt e r (λ h. h) (λ h. absurd (clash (sym m ∙ clear r a (omega arith))))
      passed (none_there u) = near

-- two markings agree above c, up to e
abbrev pub Agree : (ℕ → Bool) → (ℕ → Bool) → ℕ → ℕ → Type 0
Agree m m' e c = (q : ℕ) → c < q → q ≤ e → m q ≡ m' q

hop_alike : (m m' : ℕ → Bool) (lo hi e c : ℕ) → 0 < lo → Agree m m' e c → hop m lo hi c ≤ e → hop m' lo hi c ≡ hop m lo hi c
hop_alike m m' lo hi e c positive same = unfold hop in found (first-is m (c + hi) (suc hi - lo) (c + lo))
  where
    found : {r : ℕ} → First m (suc hi - lo) (c + lo) (c + hi) r → r ≤ e → hop m' lo hi c ≡ r
    found (at_mark r a b t u) h =
        first_hop m' lo hi c r a (omega arith) (sym (same r (omega arith) h) ∙ t) (λ q x y. sym (same q (omega arith) (omega arith)) ∙ u q x y)
    found (none_there u) h = forced_hop m' lo hi c (λ q x y. sym (same q (omega arith) (omega arith)) ∙ u q x (omega arith))

module _ (m m' : ℕ → Bool) (lo hi : ℕ) (positive : 0 < lo) (order : lo ≤ hi) (e : ℕ) where
  up_to_alike : {c o : ℕ} {l : List ℕ} → Agree m m' e c → UpTo (hop m lo hi) e c l o → UpTo (hop m' lo hi) e c l o
  up_to_alike same (past {c = c} b) =
      past (by_lt e (hop m' lo hi c) (λ h. h) (λ h. absurd (omega (arith, hop_alike m' m lo hi e c positive (λ q x y. sym (same q x y)) h))))
  up_to_alike same (leap {c = c} {l = l} {m = o} b r) =
      let up : c < hop m lo hi c = hop_rises m lo hi positive order c in
      hop_to (hop_alike m m' lo hi e c positive same b) b (up_to_alike (λ q x y. same q (omega arith) y) r)

  pub cuts_alike : (c : ℕ) → Agree m m' e c → cuts_up_to m lo hi e c ≡ cuts_up_to m' lo hi e c
  unfolding cuts_up_to
  cuts_alike c same =
      sym (listed (hop m' lo hi) e (hop_rises m' lo hi positive order) (up_to_alike same (up_to (hop m lo hi) e (hop_rises m lo hi positive order) c)))
