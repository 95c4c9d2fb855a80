-- The cuts of a log are document 01's rule, and no other list is.
use Prim.Native.Nat.{ℕ, ◌≤◌, ◌<◌}
use mathlib.Core.Path.{◌≡◌, subst, sym}
use mathlib.Core.Bool.{Bool}
use mathlib.Core.List.{List, ◌∷◌}
use mathlib.Core.Logic.{◌↔◌}
use native.Mathlib.Omega.{arith}
use Rattle.rule.specs.Rule.{next, cuts, cuts_from, OnePass, at-end, piece}
use Rattle.rule.proofs.Chain.{Run, stay, onward, whole, run_all}
use Rattle.rule.proofs.Next.{next_is, next_only, rising}

module _ (mark : ℕ → Bool) (lo hi n : ℕ) where
  told : {c : ℕ} {l : List ℕ} → Run (next mark lo hi n) n c l n → OnePass mark lo hi n c l
  told stay = at-end
  told (onward {c = c} h r) = piece h (next_is mark lo hi n c) (told r)

  run : {c : ℕ} {l : List ℕ} → OnePass mark lo hi n c l → Run (next mark lo hi n) n c l n
  run at-end = stay
  run (piece {c = c} {later = later} h is o) =
      let same = next_only mark lo hi n c is in
      subst (λ x. Run (next mark lo hi n) n c (x ∷ later) n) same (onward h (subst (λ x. Run (next mark lo hi n) n x later n) (sym same) (run o)))

  pub one_pass : 0 < lo → lo ≤ hi → (l : List ℕ) → OnePass mark lo hi n 0 l ↔ (cuts mark lo hi n ≡ l)
  unfolding cuts_from
  one_pass positive order l =
      let ok = rising mark lo hi n positive order in (
        λ o. run_all (next mark lo hi n) n ok (run o),
        λ e. subst (λ k. OnePass mark lo hi n 0 k) e (told (whole (next mark lo hi n) n ok 0 (omega arith))),
      )
