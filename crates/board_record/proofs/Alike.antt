-- A record depends on its segment's own marks alone.
use Prim.Native.Nat.{ℕ, ◌≤◌, ◌<◌}
use mathlib.Core.Path.{◌≡◌, refl, sym, ap, ◌∙◌}
use mathlib.Core.Bool.{Bool}
use mathlib.Core.List.{List, ◌∷◌}
use native.Mathlib.Omega.{arith}
use Rattle.laws.proofs.Cases.{by_test}
use Rattle.rule.proofs.Leaps.{Agree, cuts_alike}
use Rattle.board_bays.specs.Bays.{Record}
use Rattle.board_record.specs.Records.{record_after, slow_record, marks_in, is_marker, prepend}
use Rattle.board_record.proofs.Marking.{Marks, none_left, then_mark, marks_in_lem, only}
use Rattle.board_record.proofs.After.{at_marker, no_marker}

module _ (m m' : ℕ → Bool) (lo hi : ℕ) (positive : 0 < lo) (order : lo ≤ hi) (e : ℕ) where
  marks_kept : {a : ℕ} {l : List ℕ} → Agree m m' e a → Marks m e a l → Marks m' e a l
  marks_kept same (none_left u) = none_left (λ q a b. sym (same q a (omega arith)) ∙ u q a b)
  marks_kept same (then_mark b above inside t u r) =
      then_mark b above inside (sym (same b above inside) ∙ t) (λ q x y. sym (same q x (omega arith)) ∙ u q x y)
      (marks_kept (λ q x y. same q (omega arith) y) r)

  after_alike : {a : ℕ} {l : List ℕ} → Agree m m' e a → Marks m e a l → record_after m lo hi e a l ≡ record_after m' lo hi e a l
  unfolding record_after
  after_alike same (none_left u) = refl
  after_alike {a} same (then_mark b {l = l} above inside t u r) =
      by_test (is_marker lo hi a b)
      (λ s. at_marker m lo hi e a b l s
      ∙ ap {B = Record} (λ (x : List ℕ). record { marker = b; offsets = b ∷ x }) (cuts_alike m m' lo hi positive order e b (λ q x y. same q (omega arith) y))
      ∙ sym (at_marker m' lo hi e a b l s))
      (λ s. no_marker m lo hi e a b l s ∙ ap (prepend b) (after_alike (λ q x y. same q (omega arith) y) r) ∙ sym (no_marker m' lo hi e a b l s))

  slow_alike_at : {a : ℕ} {l : List ℕ} → Agree m m' e a → Marks m e a l → slow_record m lo hi e l ≡ slow_record m' lo hi e l
  unfolding slow_record
  slow_alike_at same (none_left u) = refl
  slow_alike_at same (then_mark b {l = l} above inside t u r) = ap (prepend b) (after_alike (λ q x y. same q (omega arith) y) r)

  pub slow_alike : (a : ℕ) → a ≤ e → Agree m m' e a → slow_record m lo hi e (marks_in m a e) ≡ slow_record m' lo hi e (marks_in m' a e)
  slow_alike a h same =
      slow_alike_at same (marks_in_lem m e a h)
      ∙ ap (slow_record m' lo hi e) (only m' e (marks_kept same (marks_in_lem m e a h)) (marks_in_lem m' e a h))
