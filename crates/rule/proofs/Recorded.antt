-- The cuts up to an offset e of the log, as document 01 says them of a segment: they are as told, and nothing else is.
use Prim.Native.Nat.{ℕ, ◌≤◌, ◌<◌}
use mathlib.Core.Path.{◌≡◌, sym, subst, ◌∙◌}
use mathlib.Core.Bool.{Bool}
use mathlib.Core.List.{List, [], ◌∷◌}
use native.Mathlib.Omega.{arith}
use Rattle.laws.proofs.Cases.{by_lt}
use Rattle.rule.specs.Rule.{next, hop, cuts_up_to}
use Rattle.rule.specs.Ends.{OnlyTheEnd, UpToEnd, passed, left_out, ended, cut}
use Rattle.rule.proofs.Hops.{UpTo, past, leap, up_to, listed, hop_rises, hop_long, next-hop, unmarked_before}
use Rattle.rule.proofs.Leaps.{past_hop}

module _ (mark : ℕ → Bool) (lo hi n e : ℕ) (positive : 0 < lo) (order : lo ≤ hi) (inside : e ≤ n) where
  -- the log's end is a cut for no other reason where the hop would pass it
  only_end : (c : ℕ) → n < hop mark lo hi c → OnlyTheEnd mark lo hi n c
  only_end c beyond =
      let long = hop_long mark lo hi c order in
      record {
        is_end = next-hop mark lo hi n c ∙ omega arith;
        not_forced = omega arith;
        no-mark = λ q x y. unmarked_before mark lo hi c q x (omega arith);
      }

  own_end : (c : ℕ) → OnlyTheEnd mark lo hi n c → n < hop mark lo hi c
  own_end c o = past_hop mark lo hi c n o.not_forced o.no-mark

  told : {c m : ℕ} {l : List ℕ} → UpTo (hop mark lo hi) e c l m → UpToEnd mark lo hi n e c l
  told (past {c = c} b) =
      by_lt c n
      (λ under. by_lt n (hop mark lo hi c)
      (λ beyond. left_out under (only_end c beyond))
      (λ within. let is : next mark lo hi n c ≡ hop mark lo hi c = next-hop mark lo hi n c ∙ omega arith in passed (rw is b)))
      ended
  told (leap {c = c} {l = l} b r) =
      let up : c < hop mark lo hi c = hop_rises mark lo hi positive order c in
      let is : next mark lo hi n c ≡ hop mark lo hi c = next-hop mark lo hi n c ∙ omega arith in
      subst (λ x. UpToEnd mark lo hi n e c (x ∷ l)) is
      (cut (omega arith) (rw is b) (λ o. omega (arith, own_end c o)) (subst (λ x. UpToEnd mark lo hi n e x l) (sym is) (told r)))

  halt : (c : ℕ) → e < hop mark lo hi c → (m : ℕ) × UpTo (hop mark lo hi) e c [] m
  halt c h = (c, past h)

  hopped : {c : ℕ} {l : List ℕ} → UpToEnd mark lo hi n e c l → (m : ℕ) × UpTo (hop mark lo hi) e c l m
  hopped (passed {c = c} b) = halt c (omega (arith, next-hop mark lo hi n c))
  hopped (left_out {c = c} under o) = halt c (omega (arith, own_end c o))
  hopped (ended {c = c} h) = halt c (omega (arith, hop_rises mark lo hi positive order c))
  hopped (cut {c = c} {offsets = l} under b own r) =
      let within : hop mark lo hi c ≤ n = by_lt n (hop mark lo hi c) (λ beyond. absurd (own (only_end c beyond))) (λ h. h) in
      let is : next mark lo hi n c ≡ hop mark lo hi c = next-hop mark lo hi n c ∙ omega arith in
      let rest = hopped r in (
        rest.0,
        subst (λ x. UpTo (hop mark lo hi) e c (x ∷ l) rest.0) (sym is)
            (leap (omega arith) (subst (λ x. UpTo (hop mark lo hi) e x l rest.0) is rest.1)),
      )

  pub up_to_told : (c : ℕ) → UpToEnd mark lo hi n e c (cuts_up_to mark lo hi e c)
  unfolding cuts_up_to
  up_to_told c = told (up_to (hop mark lo hi) e (hop_rises mark lo hi positive order) c)

  pub up_to_only : {c : ℕ} {l : List ℕ} → UpToEnd mark lo hi n e c l → cuts_up_to mark lo hi e c ≡ l
  unfolding cuts_up_to
  up_to_only r = listed (hop mark lo hi) e (hop_rises mark lo hi positive order) (hopped r).1
