-- What is recorded after a mark: at the marker, and before it.
use Prim.Native.Nat.{ℕ, ◌-◌, ◌≤◌, ◌<◌}
use mathlib.Core.Path.{◌≡◌}
use mathlib.Core.Bool.{Bool, true, false}
use mathlib.Core.List.{List, ◌∷◌}
use native.Mathlib.Omega.{arith}
use lib.Dec.{eqb}
use borrow.Author.Tests.{leb-true, ne_eqb}
use Rattle.laws.proofs.Cases.{by_test, both_true}
use Rattle.rule.specs.Rule.{cuts_up_to}
use Rattle.board_record.specs.Records.{record_after, is_marker, prepend}
use Rattle.board_record.proofs.Marking.{Marks, none_left, then_mark}

-- what the marker test says
pub piece : (lo hi a b : ℕ) → is_marker lo hi a b ≡ true → (lo ≤ b - a) × (b - a ≤ hi - lo)
unfolding is_marker
piece lo hi a b t = let s = both_true t in (leb-true _ _ s.0, leb-true _ _ s.1)

module _ (mark : ℕ → Bool) (lo hi e : ℕ) where
  pub at_marker : (a b : ℕ) (marks : List ℕ) → is_marker lo hi a b ≡ true
      → record_after mark lo hi e a (b ∷ marks) ≡ record { marker = b; offsets = b ∷ cuts_up_to mark lo hi e b }
  unfolding record_after
  at_marker a b marks t = rw (t, record_after)

  pub no_marker : (a b : ℕ) (marks : List ℕ) → is_marker lo hi a b ≡ false
      → record_after mark lo hi e a (b ∷ marks) ≡ prepend b (record_after mark lo hi e b marks)
  unfolding record_after
  no_marker a b marks t = rw (t, record_after)

  -- the marker recorded after the mark a is past a
  pub marker_later : {a : ℕ} {marks : List ℕ} (p : ℕ) → 0 < p → p ≤ a → Marks mark e a marks → eqb p (record_after mark lo hi e a marks).marker ≡ false
  unfolding record_after prepend
  marker_later p h below (none_left u) = ne_eqb p 0 (λ z. omega arith)
  marker_later {a} p h below (then_mark b {l = marks} above inside m u r) =
      by_test (is_marker lo hi a b)
      (λ t. rw (at_marker a b marks t) (ne_eqb p b (λ z. omega arith)))
      (λ t. rw (no_marker a b marks t) (marker_later p h (omega arith) r))
