-- Hops up to an offset e: a log read as far as e, whatever follows. Blocks, records and the walk go by these; one law ties them to the cuts.
use Prim.Native.Nat.{ℕ, zero, suc, ◌+◌, ◌-◌, ◌≤◌, ◌<◌, min}
use mathlib.Core.Path.{◌≡◌, refl, sym, ap, ◌∙◌, subst}
use mathlib.Core.Bool.{Bool, true, false}
use mathlib.Core.List.{List, [], ◌∷◌, ◌++◌}
use native.Mathlib.Nat.{le_trans}
use native.Mathlib.Omega.{arith}
use borrow.Author.Tests.{le-leb, lt-leb, lt-ltb, le-ltb}
use Rattle.laws.proofs.Cases.{by_lt, clash}
use Rattle.rule.specs.Rule.{next, chain, hop, hops, last_or, cuts_from, closing, Unmarked, first-mark, forced, log_ends}
use Rattle.rule.proofs.First.{First, at_mark, none_there, first-is, first_at}
use Rattle.rule.proofs.Chain.{Run, stay, onward, opened, parted, at-end}
use Rattle.rule.proofs.Next.{next_only, rising}

-- l are the hops after c that stay at or below e, and m is the last of them, or c where there are none
pub data UpTo (hop : ℕ → ℕ) (e : ℕ) : ℕ → List ℕ → ℕ → Type 0 where
  past : {c : ℕ} → e < hop c → UpTo hop e c [] c
  leap : {c : ℕ} {l : List ℕ} {m : ℕ} → hop c ≤ e → UpTo hop e (hop c) l m → UpTo hop e c (hop c ∷ l) m

-- a hop that ends at p, and the hops from there
pub hop_to : {hop : ℕ → ℕ} {e c p m : ℕ} {l : List ℕ} → hop c ≡ p → p ≤ e → UpTo hop e p l m → UpTo hop e c (p ∷ l) m
hop_to {hop} {e} {c} {p} {m} {l} here inside rest =
    subst (λ x. UpTo hop e c (x ∷ l) m) here
    (leap (subst (λ x. x ≤ e) (sym here) inside) (subst (λ x. UpTo hop e x l m) (sym here) rest))

-- read back: the first hop where one stays at or below e, and none where it does not
pub leaps : {hop : ℕ → ℕ} {e c p m : ℕ} {l : List ℕ} → UpTo hop e c l m → hop c ≡ p → p ≤ e → (k : List ℕ) × (l ≡ p ∷ k) × UpTo hop e p k m
leaps (past b) here inside = absurd (omega arith)
leaps {hop} {e} {m = m} (leap {l = l} b r) here inside = (l, ap (λ x. x ∷ l) here, subst (λ x. UpTo hop e x l m) here r)

pub no_more : {hop : ℕ → ℕ} {e c m : ℕ} {l : List ℕ} → UpTo hop e c l m → e < hop c → (l ≡ []) × (m ≡ c)
no_more (past b) ahead = (refl, refl)
no_more (leap b r) ahead = absurd (omega arith)

-- two stretches, one after the other
pub up_to_joined : {hop : ℕ → ℕ} {d e c m o : ℕ} {l k : List ℕ} → d ≤ e → UpTo hop d c l m → UpTo hop e m k o → UpTo hop e c (l ++ k) o
up_to_joined h (past b) s = s
up_to_joined h (leap b r) s = leap (le_trans b h) (up_to_joined h r s)

pub last_is : {hop : ℕ → ℕ} {e c m : ℕ} {l : List ℕ} → UpTo hop e c l m → last_or c l ≡ m
unfolding last_or
last_is (past b) = refl
last_is (leap b r) = last_is r

-- where it stands after its last hop
pub record Stands (hop : ℕ → ℕ) (e c m : ℕ) : Type 0 where
  pub from_start : c ≤ m
  pub reached : c ≤ e → m ≤ e
  pub ahead : e < hop m

module _ (hop : ℕ → ℕ) (e : ℕ) (rises : (c : ℕ) → c < hop c) where
  pub stands : {c m : ℕ} {l : List ℕ} → UpTo hop e c l m → Stands hop e c m
  stands (past b) = record { from_start = omega arith; reached = λ h. h; ahead = b }
  stands (leap {c = c} b r) =
      let s = stands r in
      let up : c < hop c = rises c in
      record { from_start = omega (arith, s.from_start); reached = λ h. s.reached b; ahead = s.ahead }

  stopped : (fuel c : ℕ) → e < hop c → hops hop e fuel c ≡ []
  unfolding hops
  stopped zero c h = refl
  stopped (suc fuel) c h = rw (lt-leb (hop c) e h, hops)

  hopped : (fuel c : ℕ) → hop c ≤ e → hops hop e (suc fuel) c ≡ hop c ∷ hops hop e fuel (hop c)
  unfolding hops
  hopped fuel c h = rw (le-leb (hop c) e h, hops)

  by_fuel : (fuel : ℕ) {c m : ℕ} {l : List ℕ} → e ≤ c + fuel → UpTo hop e c l m → hops hop e fuel c ≡ l
  by_fuel fuel h (past {c = c} b) = stopped fuel c b
  by_fuel zero h (leap {c = c} b r) = absurd (omega (arith, rises c))
  by_fuel (suc fuel) h (leap {c = c} b r) =
      let up : c < hop c = rises c in hopped fuel c b ∙ ap (λ l. hop c ∷ l) (by_fuel fuel (omega arith) r)

  -- the hops up to e are the list that the definition computes
  pub listed : {c m : ℕ} {l : List ℕ} → UpTo hop e c l m → hops hop e (e - c) c ≡ l
  listed {c} r = by_fuel (e - c) (omega arith) r

  find : (fuel c : ℕ) → e < c + fuel → (l : List ℕ) × (m : ℕ) × UpTo hop e c l m
  find zero c h = let ahead : e < hop c = omega (arith, rises c) in ([], c, past ahead)
  find (suc fuel) c h =
      let up : c < hop c = rises c in
      let more = find fuel (hop c) (omega arith) in
      by_lt e (hop c) (λ p. ([], c, past p)) (λ p. (hop c ∷ more.0, more.1, leap p more.2))

  pub up_to : (c : ℕ) → UpTo hop e c (hops hop e (e - c) c) (last_or c (hops hop e (e - c) c))
  up_to c =
      let found = find (suc e) c (omega arith) in
      subst (λ l. UpTo hop e c l (last_or c l)) (sym (listed found.2))
      (subst (λ m. UpTo hop e c found.0 m) (sym (last_is found.2)) found.2)

pub still_open : (n m : ℕ) → m < n → closing n m ≡ n ∷ []
unfolding closing
still_open n m h = rw (lt-ltb m n h, closing)

pub already : (n m : ℕ) → n ≤ m → closing n m ≡ []
unfolding closing
already n m h = rw (le-ltb m n h, closing)

module _ (mark : ℕ → Bool) (lo hi : ℕ) where
  hop_is : (c : ℕ) → First mark (suc hi - lo) (c + lo) (c + hi) (hop mark lo hi c)
  unfolding hop
  hop_is c = first-is mark (c + hi) (suc hi - lo) (c + lo)

  -- a hop is from minimum to maximum long
  pub hop_long : (c : ℕ) → lo ≤ hi → (c + lo ≤ hop mark lo hi c) × (hop mark lo hi c ≤ c + hi)
  hop_long c order = bounds (hop_is c)
    where
      bounds : {r : ℕ} → First mark (suc hi - lo) (c + lo) (c + hi) r → (c + lo ≤ r) × (r ≤ c + hi)
      bounds (at_mark r a b m u) = omega arith
      bounds (none_there u) = omega arith

  pub hop_rises : 0 < lo → lo ≤ hi → (c : ℕ) → c < hop mark lo hi c
  hop_rises positive order c = omega (arith, hop_long c order)

  -- the log's end cuts a hop short
  pub next-hop : (n c : ℕ) → next mark lo hi n c ≡ min (hop mark lo hi c) n
  next-hop n c = shortened (hop_is c)
    where
      shortened : {r : ℕ} → First mark (suc hi - lo) (c + lo) (c + hi) r → next mark lo hi n c ≡ min r n
      shortened (at_mark r a b m u) =
          by_lt n r
          (λ h. next_only mark lo hi n c (log_ends (omega arith) (λ q p k. u q p (omega arith))) ∙ omega arith)
          (λ h. next_only mark lo hi n c (first-mark r a (omega arith) h m u) ∙ omega arith)
      shortened (none_there u) =
          by_lt n (c + hi)
          (λ h. next_only mark lo hi n c (log_ends h (λ q p k. u q p (omega arith))) ∙ omega arith)
          (λ h. next_only mark lo hi n c (forced h (λ q p k. u q p (omega arith))) ∙ omega arith)

  -- no mark is passed over by a hop
  pub unmarked_before : (m : ℕ) → Unmarked mark (m + lo) (hop mark lo hi m)
  unmarked_before m = passed (hop_is m)
    where
      passed : {r : ℕ} → First mark (suc hi - lo) (m + lo) (m + hi) r → Unmarked mark (m + lo) r
      passed (at_mark r a b e u) = u
      passed (none_there u) = λ q p k. u q p (omega arith)

  -- an offset that no hop from m has passed is where the hop ends, if it is a mark far enough from m
  pub hop_here : (m p : ℕ) → p ≤ hop mark lo hi m → m + lo ≤ p → p ≤ m + hi → mark p ≡ true → hop mark lo hi m ≡ p
  hop_here m p ahead far near marked = unfold hop in first_at mark (m + hi) (suc hi - lo) (m + lo) p far (omega arith) marked (λ q a b. unmarked_before m q a (omega arith))

  -- and is passed too, if it is no mark and no cut is forced there
  pub hop_on : (m p : ℕ) → p ≤ hop mark lo hi m → p < m + hi → mark p ≡ false → p < hop mark lo hi m
  hop_on m p ahead near unmarked = passed (hop_is m) ahead
    where
      passed : {r : ℕ} → First mark (suc hi - lo) (m + lo) (m + hi) r → p ≤ r → p < r
      passed (at_mark r a b e u) h = by_lt p r (λ k. k) (λ k. absurd (clash (sym e ∙ ap mark (omega arith) ∙ unmarked)))
      passed (none_there u) h = near

  module _ (positive : 0 < lo) (order : lo ≤ hi) (n : ℕ) where
    run_of_hops : {c m : ℕ} {l : List ℕ} → UpTo (hop mark lo hi) n c l m → Run (next mark lo hi n) n c l m
    run_of_hops (past b) = stay
    run_of_hops (leap {c = c} {l = l} {m = m} b r) =
        let up : c < hop mark lo hi c = hop_rises positive order c in
        let here : next mark lo hi n c ≡ hop mark lo hi c = next-hop n c ∙ omega arith in
        subst (λ x. Run (next mark lo hi n) n c (x ∷ l) m) here
        (onward (omega arith) (subst (λ x. Run (next mark lo hi n) n x l m) (sym here) (run_of_hops r)))

    -- what is left once no hop stays below n
    last_piece : (m : ℕ) → n < hop mark lo hi m → chain (next mark lo hi n) n (n - m) m ≡ closing n m
    last_piece m ahead =
        by_lt m n
        (λ b. opened (next mark lo hi n) n (rising mark lo hi n positive order) m b
        ∙ ap (λ e. e ∷ chain (next mark lo hi n) n (n - e) e) (next-hop n m ∙ omega arith)
        ∙ ap (λ l. n ∷ l) (at-end (next mark lo hi n) n (n - n) n (omega arith))
        ∙ sym (still_open n m b))
        (λ b. at-end (next mark lo hi n) n (n - m) m b ∙ sym (already n m b))

    -- the cuts are the hops up to n, and then n where it is not yet a cut
    pub cuts_by_hops : {c m : ℕ} {l : List ℕ} → UpTo (hop mark lo hi) n c l m → cuts_from mark lo hi n c ≡ l ++ closing n m
    unfolding cuts_from
    cuts_by_hops {c} {m} {l} r =
        parted (next mark lo hi n) n (rising mark lo hi n positive order) (run_of_hops r)
        ∙ ap (λ k. l ++ k) (last_piece m (stands (hop mark lo hi) n (hop_rises positive order) r).ahead)
