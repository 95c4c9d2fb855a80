-- The first mark of a range of offsets: what it is, that nothing else is, and that it moves with the marks.
use Prim.Native.Nat.{ℕ, zero, suc, ◌+◌, ◌-◌, ◌≤◌, ◌<◌}
use mathlib.Core.Path.{◌≡◌, refl, sym, ap, ◌∙◌}
use mathlib.Core.Bool.{Bool, true, false}
use native.Mathlib.Nat.{add-zero}
use native.Mathlib.Omega.{arith}
use Rattle.laws.proofs.Cases.{by_test, by_lt, clash}
use Rattle.rule.specs.Rule.{first_mark, Unmarked}

-- r is the first mark among the k offsets from p on, or other where none of them is a mark
pub data First (mark : ℕ → Bool) (k p other : ℕ) : ℕ → Type 0 where
  at_mark : (r : ℕ) → p ≤ r → r < p + k → mark r ≡ true → Unmarked mark p r → First mark k p other r
  none_there : Unmarked mark p (p + k) → First mark k p other other

module _ (mark : ℕ → Bool) (other : ℕ) where
  hit : (k p : ℕ) → mark p ≡ true → first_mark mark (suc k) p other ≡ p
  unfolding first_mark
  hit k p e = rw (e, first_mark)

  miss : (k p : ℕ) → mark p ≡ false → first_mark mark (suc k) p other ≡ first_mark mark k (suc p) other
  unfolding first_mark
  miss k p e = rw (e, first_mark)

  -- what is unmarked past p is so from p on, where p is unmarked
  from_here : (p b : ℕ) → mark p ≡ false → Unmarked mark (suc p) b → Unmarked mark p b
  from_here p b e u q lo hi = by_lt p q (λ h. u q h hi) (λ h. ap mark (omega arith) ∙ e)

  earlier : (k p : ℕ) {r : ℕ} → mark p ≡ false → First mark k (suc p) other r → First mark (suc k) p other r
  earlier k p e (at_mark r lo hi m u) = at_mark r (omega arith) (omega arith) m (from_here p r e u)
  earlier k p e (none_there u) = none_there (from_here p (p + suc k) e (λ q lo hi. u q lo (omega arith)))

  pub first-is : (k p : ℕ) → First mark k p other (first_mark mark k p other)
  unfolding first_mark
  first-is zero p = none_there (λ q lo hi. absurd (omega arith))
  first-is (suc k) p =
      by_test (mark p)
      (λ e. rw (hit k p e) (at_mark p (omega arith) (omega arith) e (λ q lo hi. absurd (omega arith))))
      (λ e. rw (miss k p e) (earlier k p e (first-is k (suc p))))

  -- a mark with none before it in the range is the first
  pub first_at : (k p r : ℕ) → p ≤ r → r < p + k → mark r ≡ true → Unmarked mark p r → first_mark mark k p other ≡ r
  first_at zero p r lo hi m u = absurd (omega arith)
  first_at (suc k) p r lo hi m u =
      by_lt p r
      (λ h. miss k p (u p (omega arith) h) ∙ first_at k (suc p) r h (omega arith) m (λ q a b. u q (omega arith) b))
      (λ h. let e : r ≡ p = omega arith in hit k p (ap mark (sym e) ∙ m) ∙ sym e)

  pub first-none : (k p : ℕ) → Unmarked mark p (p + k) → first_mark mark k p other ≡ other
  unfolding first_mark
  first-none zero p u = refl
  first-none (suc k) p u =
      miss k p (u p (omega arith) (omega arith)) ∙ first-none k (suc p) (λ q a b. u q (omega arith) (omega arith))

-- a search from first to last, and one that stops or starts in between
module _ (mark : ℕ → Bool) (first last : ℕ) where
  -- up to edge: where it stops below edge is a mark, and the first up to last too
  pub first_early : (edge : ℕ) → edge ≤ last → first_mark mark (suc edge - first) first edge < edge
      → first_mark mark (suc last - first) first last ≡ first_mark mark (suc edge - first) first edge
  first_early edge within = early (first-is mark edge (suc edge - first) first)
    where
      early : {r : ℕ} → First mark (suc edge - first) first edge r → r < edge → first_mark mark (suc last - first) first last ≡ r
      early (at_mark r lo hi m u) h = first_at mark last (suc last - first) first r lo (omega arith) m u
      early (none_there u) h = absurd (omega arith)

  -- where it does not, nothing below edge is a mark
  pub none_early : (edge : ℕ) → edge ≤ first_mark mark (suc edge - first) first edge → Unmarked mark first edge
  none_early edge = passed (first-is mark edge (suc edge - first) first)
    where
      passed : {r : ℕ} → First mark (suc edge - first) first edge r → edge ≤ r → Unmarked mark first edge
      passed (at_mark r lo hi m u) h q a b = u q a (omega arith)
      passed (none_there u) h q a b = u q a (omega arith)

  -- from a later offset on: unmarked offsets below last may be left out
  pub first_later : (from : ℕ) → first ≤ from → ((q : ℕ) → first ≤ q → q < from → q < last → mark q ≡ false)
      → first_mark mark (suc last - first) first last ≡ first_mark mark (suc last - from) from last
  first_later from h passed = later (first-is mark last (suc last - from) from)
    where
      stops : {r : ℕ} → First mark (suc last - first) first last r → Unmarked mark from (from + (suc last - from)) → r ≡ last
      stops (at_mark r lo hi m u) none =
          by_lt r last
          (λ k. absurd (clash (sym m ∙ by_lt r from (λ j. passed r lo j k) (λ j. none r j (omega arith)))))
          (λ k. omega arith)
      stops (none_there u) none = refl

      later : {r : ℕ} → First mark (suc last - from) from last r → first_mark mark (suc last - first) first last ≡ r
      later (at_mark r lo hi m u) =
          first_at mark last (suc last - first) first r (omega arith) (omega arith) m
          (λ q a b. by_lt q from (λ k. passed q a k (omega arith)) (λ k. u q k b))
      later (none_there u) = stops (first-is mark last (suc last - first) first) u

-- where two ranges are marked alike, their first marks lie alike: x + b ≡ y + a says that y is as far past b as x is past a
module _ (mark mark' : ℕ → Bool) (a b other other' : ℕ) (others : other + b ≡ other' + a) where
  pub first_moves : (k p q : ℕ) → p + b ≡ q + a → ((i : ℕ) → i < k → mark (p + i) ≡ mark' (q + i))
      → first_mark mark k p other + b ≡ first_mark mark' k q other' + a
  unfolding first_mark
  first_moves zero p q e same = others
  first_moves (suc k) p q e same =
      let here : mark p ≡ mark' q = ap mark (sym (add-zero p)) ∙ same 0 (omega arith) ∙ ap mark' (add-zero q) in
      by_test (mark p)
      (λ t. rw (hit mark other k p t, hit mark' other' k q (sym here ∙ t)) e)
      (λ t. rw (miss mark other k p t, miss mark' other' k q (sym here ∙ t))
      (first_moves k (suc p) (suc q) (omega arith)
      (λ i h. ap mark (omega arith) ∙ same (suc i) (omega arith) ∙ ap mark' (omega arith))))
