-- The walk follows the cuts: what it has made is a run of hops, and no mark that could be a cut lies between its last cut and the place it has read to.
use Prim.Native.Nat.{ℕ, suc, ◌+◌, ◌-◌, ◌≤◌, ◌<◌}
use mathlib.Core.Path.{◌≡◌, sym, subst}
use mathlib.Core.Bool.{Bool, true, false, ◌&&◌}
use mathlib.Core.List.{List, [], ◌∷◌, ◌++◌}
use native.Mathlib.Nat.{le_trans}
use native.Mathlib.Omega.{arith}
use lib.Dec.{eqb}
use Rattle.laws.proofs.Cases.{by_lt, and-false}
use Rattle.rule.specs.Rule.{hop, last_or, cuts_up_to, Unmarked}
use Rattle.rule.proofs.Hops.{UpTo, past, leap, hop_to, up_to, stands, last_is, up_to_joined, hop_rises, unmarked_before}
use Rattle.board_walk.specs.Walk.{forced_up_to, read_offset, read_as_marks}
use Rattle.rule.proofs.Leaps.{first_hop, forced_hop}
use Rattle.board_walk.proofs.Offsets.{forced_rises, forced_up_to_lem, forced_last, offset_near, offset_far, read_on}

-- a run of hops up to d is one up to any e between its last hop and the next
pub up_to_moved : (hop : ℕ → ℕ) → ((c : ℕ) → c < hop c) → (d e : ℕ) {c m : ℕ} {l : List ℕ} → m ≤ e → e < hop m → UpTo hop d c l m → UpTo hop e c l m
up_to_moved hop rises d e h ahead (past b) = past ahead
up_to_moved hop rises d e h ahead (leap b r) = leap (le_trans (stands hop d rises r).from_start h) (up_to_moved hop rises d e h ahead r)

-- one hop
pub single : (hop : ℕ → ℕ) → ((c : ℕ) → c < hop c) → (c p : ℕ) → hop c ≡ p → UpTo hop p c (p ∷ []) p
single hop rises c p e = hop_to e (omega arith) (past (rises p))

module _ (mark : ℕ → Bool) (lo hi : ℕ) where
  -- made are the cuts that follow c, m is the last of them or c, and no mark from m + minimum up to e
  pub record Walked (c e : ℕ) (made : List ℕ) (m : ℕ) : Type 0 where
    pub hopped : UpTo (hop mark lo hi) m c made m
    pub reached : m ≤ e
    pub clear : Unmarked mark (m + lo) (suc e)

module _ (mark : ℕ → Bool) (lo hi : ℕ) (positive : 0 < lo) (order : lo ≤ hi) where
  rises : (c : ℕ) → c < hop mark lo hi c
  rises = hop_rises mark lo hi positive order

  pub joined : {c d e m o : ℕ} {l k : List ℕ} → Walked mark lo hi c d l m → Walked mark lo hi m e k o → Walked mark lo hi c e (l ++ k) o
  joined v w =
      record {
        hopped = up_to_joined (stands (hop mark lo hi) _ rises w.hopped).from_start v.hopped w.hopped;
        reached = w.reached;
        clear = w.clear;
      }

  pub to_last : {c e m : ℕ} {l : List ℕ} → Walked mark lo hi c e l m → Walked mark lo hi c e l (last_or c l)
  to_last {c} {e} {m} {l} w = subst (λ x. Walked mark lo hi c e l x) (sym (last_is w.hopped)) w

  -- nothing is made
  pub idle : (c e : ℕ) → c ≤ e → Unmarked mark (c + lo) (suc e) → Walked mark lo hi c e [] c
  idle c e h u = record { hopped = past (rises c); reached = h; clear = u }

  -- one cut at the first mark that is far enough
  pub one_cut : (c p : ℕ) → c + lo ≤ p → p ≤ c + hi → mark p ≡ true → Unmarked mark (c + lo) p → Walked mark lo hi c p (p ∷ []) p
  one_cut c p far near m u =
      record {
        hopped = single (hop mark lo hi) rises c p (first_hop mark lo hi c p far near m u);
        reached = omega arith;
        clear = λ q x y. absurd (omega arith);
      }

  -- the one-pass cuts that follow c up to e
  pub one_pass : (c e : ℕ) → c ≤ e → Walked mark lo hi c e (cuts_up_to mark lo hi e c) (last_or c (cuts_up_to mark lo hi e c))
  unfolding cuts_up_to
  one_pass c e h =
      let r = up_to (hop mark lo hi) e rises c in
      let s = stands (hop mark lo hi) e rises r in
      record {
        hopped = up_to_moved (hop mark lo hi) rises e _ (omega arith) (rises _) r;
        reached = s.reached h;
        clear = λ q x y. unmarked_before mark lo hi _ q x (le_trans y s.ahead);
      }

  -- where there is no mark, the forced cuts are the hops
  forced_hops : (e : ℕ) {c m : ℕ} {l : List ℕ} → Unmarked mark (c + lo) (suc e) → UpTo (λ (x : ℕ). x + hi) e c l m → UpTo (hop mark lo hi) m c l m
  forced_hops e u (past {c = c} b) = past (rises c)
  forced_hops e u (leap {c = c} {l = l} {m = m} b r) =
      let here : hop mark lo hi c ≡ c + hi = forced_hop mark lo hi c (λ q x y. u q x (omega arith)) in
      let on : c + hi ≤ m = (stands (λ (x : ℕ). x + hi) e (forced_rises hi (omega arith)) r).from_start in
      let rest : UpTo (hop mark lo hi) m (c + hi) l m = forced_hops e (λ q x y. u q (omega arith) y) r in
      subst (λ x. UpTo (hop mark lo hi) m c (x ∷ l) m) here
      (leap (rw here on) (subst (λ x. UpTo (hop mark lo hi) m x l m) (sym here) rest))

  -- forced cuts up to e, and the next one would be past e
  pub forced_walk : (c e : ℕ) → c ≤ e → Unmarked mark (c + lo) (suc e)
      → Walked mark lo hi c e (forced_up_to hi e c) (last_or c (forced_up_to hi e c)) × (e < last_or c (forced_up_to hi e c) + hi)
  forced_walk c e h u =
      let s = forced_last hi (omega arith) c e h in
      (record { hopped = forced_hops e u (forced_up_to_lem hi (omega arith) e c); reached = s.1; clear = λ q x y. u q (omega arith) y }, s.2)

  -- an offset p that is the next mark is read
  pub read-offset : (c p : ℕ) → c < p → mark p ≡ true → Unmarked mark (c + lo) p
      → (m : ℕ) × Walked mark lo hi c p (read_offset lo hi c p) m × (p < m + lo)
  read-offset c p above marked free =
      let f = forced_walk c (p - 1) (omega arith) (λ q x y. free q x (omega arith)) in
      let m : ℕ = last_or c (forced_up_to hi (p - 1) c) in
      let under : m ≤ p - 1 = f.0.reached in
      let near : p - 1 < m + hi = f.1 in
      by_lt p (m + lo)
      (λ close. (m, rw (offset_near lo hi c p close) (record { hopped = f.0.hopped; reached = omega arith; clear = λ q x y. absurd (omega arith) }), close))
      (λ far. (
        p,
        rw (offset_far lo hi c p far)
            (joined f.0 (one_cut m p far (omega arith) marked (λ q x y. f.0.clear q x (omega arith)))),
        omega arith,
      ))

  -- and then, if it is not the marker, the offsets after it
  pub read_mark : (marker a e c p : ℕ) (offsets : List ℕ) → c ≤ a → a < p → p ≤ e → mark p ≡ true → Unmarked mark (c + lo) (suc a) → Unmarked mark (suc a) p
      → eqb p marker ≡ false
      → ((d : ℕ) → d ≤ p → p < d + lo → (m : ℕ) × Walked mark lo hi d e (read_as_marks lo hi marker d offsets) m)
      → (m : ℕ) × Walked mark lo hi c e (read_as_marks lo hi marker c (p ∷ offsets)) m
  read_mark marker a e c p offsets under above inside marked clear unmarked other rest =
      let free : Unmarked mark (c + lo) p = λ q x y. by_lt a q (λ h. unmarked q h y) (λ h. clear q x (omega arith)) in
      let o = read-offset c p (omega arith) marked free in
      let w = to_last o.1 in
      let at : last_or c (read_offset lo hi c p) ≡ o.0 = last_is o.1.hopped in
      let after = rest (last_or c (read_offset lo hi c p)) w.reached (omega (arith, o.2)) in
      let test : eqb (last_or c (read_offset lo hi c p)) p && eqb p marker ≡ false = rw other (and-false (eqb (last_or c (read_offset lo hi c p)) p)) in
      (after.0, rw (read_on lo hi c p marker offsets test) (joined w after.1))
