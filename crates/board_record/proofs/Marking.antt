-- The marks of a segment, one after the other.
use Prim.Native.Nat.{ℕ, zero, suc, ◌+◌, ◌-◌, ◌≤◌, ◌<◌}
use mathlib.Core.Path.{◌≡◌, refl, sym, ap, ◌∙◌, subst}
use mathlib.Core.Bool.{Bool, true}
use mathlib.Core.List.{List, [], ◌∷◌}
use native.Mathlib.Omega.{arith}
use Rattle.laws.proofs.Cases.{by_test, by_lt, clash}
use Rattle.rule.specs.Rule.{Unmarked}
use Rattle.board_record.specs.Records.{marks_among, marks_in}

-- l are the marks above a, up to e
pub data Marks (mark : ℕ → Bool) (e : ℕ) : ℕ → List ℕ → Type 0 where
  none_left : {a : ℕ} → Unmarked mark (suc a) (suc e) → Marks mark e a []
  then_mark : {a : ℕ} (b : ℕ) {l : List ℕ} → a < b → b ≤ e → mark b ≡ true → Unmarked mark (suc a) b → Marks mark e b l → Marks mark e a (b ∷ l)

module _ (mark : ℕ → Bool) (e : ℕ) where
  among : (k p a : ℕ) → a < p → p + k ≡ suc e → Unmarked mark (suc a) p → Marks mark e a (marks_among mark k p)
  unfolding marks_among
  among zero p a h ends u = none_left (λ q lo hi. u q lo (omega arith))
  among (suc k) p a h ends u =
      by_test (mark p)
      (λ t. rw (t, marks_among) (then_mark p h (omega arith) t u (among k (suc p) p (omega arith) (omega arith) (λ q lo hi. absurd (omega arith)))))
      (λ t. rw (t, marks_among)
      (among k (suc p) a (omega arith) (omega arith) (λ q lo hi. by_lt q p (u q lo) (λ past. ap mark (omega arith) ∙ t))))

  pub marks_in_lem : (a : ℕ) → a ≤ e → Marks mark e a (marks_in mark a e)
  unfolding marks_in
  marks_in_lem a h = among (e - a) (suc a) a (omega arith) (omega arith) (λ q lo hi. absurd (omega arith))

-- the marks above an offset are one list
module _ (mark : ℕ → Bool) (e : ℕ) where
  pub only : {a : ℕ} {l k : List ℕ} → Marks mark e a l → Marks mark e a k → l ≡ k
  only (none_left u) (none_left v) = refl
  only (none_left u) (then_mark b above inside m v r) = absurd (clash (sym m ∙ u b above (omega arith)))
  only (then_mark b above inside m v r) (none_left u) = absurd (clash (sym m ∙ u b above (omega arith)))
  only (then_mark b {l = l} above inside m v r) (then_mark b' {l = k} above' inside' m' v' r') =
      by_lt b b'
      (λ h. absurd (clash (sym m ∙ v' b above h)))
      (λ h. by_lt b' b
      (λ h'. absurd (clash (sym m' ∙ v b' above' h')))
      (λ h'. let same : b' ≡ b = omega arith in
      ap (λ x. x ∷ l) (sym same) ∙ ap (λ x. b' ∷ x) (only r (subst (λ x. Marks mark e x k) same r'))))

  pub marks_next : (a b : ℕ) → a < b → b ≤ e → mark b ≡ true → Unmarked mark (suc a) b → marks_in mark a e ≡ b ∷ marks_in mark b e
  marks_next a b above inside m u = only (marks_in_lem mark e a (omega arith)) (then_mark b above inside m u (marks_in_lem mark e b inside))

  pub marks_none : (a : ℕ) → a ≤ e → Unmarked mark (suc a) (suc e) → marks_in mark a e ≡ []
  marks_none a h u = only (marks_in_lem mark e a h) (none_left u)
