-- The marks that a carry's window and a block show, counted from the block's start: where they lie.
use Prim.Native.Nat.{ℕ, suc, ◌+◌, ◌-◌, ◌≤◌}
use mathlib.Core.Path.{◌≡◌, refl, sym, ap, ap₂, ◌∙◌}
use mathlib.Core.Bool.{Bool}
use mathlib.Core.List.{List, ◌++◌}
use native.Mathlib.Omega.{arith}
use lib.ListN.{length, take, drop, length-append, length-take, take-append-drop}
use lib.Seq.{drop-append-add}
use Rattle.terms.specs.declared.Settings.{Settings}
use Rattle.rule.specs.Rule.{first_mark}
use Rattle.rule.proofs.First.{first_moves}
use Rattle.signature.specs.Signatures.{window}
use Rattle.cutting.specs.Marks.{mark}
use Rattle.cutting.proofs.Marked.{marks_agree}
use Rattle.pass_carry.proofs.Sees.{window_first}
use Rattle.pass_block.specs.Taking.{head_of}

-- up to the block's first 48 bytes a head's windows are those of the window and the block
pub head_windows : (w block : List ℕ) (i : ℕ) → length w ≡ 48 → i ≤ 48 → i ≤ length block → window (head_of w block) i ≡ window (w ++ block) i
head_windows w block i whole a b =
    let within : i ≤ length (take 48 block) = rw length-take (omega arith) in
    window_first w (take 48 block) _ i whole within
    ∙ sym (window_first w (take 48 block) (drop 48 block) i whole within) ∙ ap (λ l. window (w ++ l) i) (take-append-drop 48 block)

abbrev pub shown : Settings → List ℕ → ℕ → Bool
shown s bytes i = mark s bytes (48 + i)

module _ (s : Settings) (w block : List ℕ) (whole : length w ≡ 48) where
  pub long : length (w ++ block) ≡ 48 + length block
  long = length-append w block ∙ ap (λ n. n + length block) whole

  -- those further on lie in the block
  pub block_marks : (i : ℕ) → 48 ≤ i → i ≤ length block → mark s block i ≡ shown s (w ++ block) i
  block_marks i a b =
      let here : 48 + i - 48 ≡ length w + (i - 48) = omega arith in
      marks_agree s block (w ++ block) i (48 + i) a b (omega arith) (omega (arith, long))
      (ap (take 48) (sym (drop-append-add w block (i - 48)) ∙ ap (λ n. drop n (w ++ block)) (sym here)))

  pub inside : (first last : ℕ) → 48 ≤ first → last ≤ length block
      → first_mark (mark s block) (suc last - first) first last ≡ first_mark (shown s (w ++ block)) (suc last - first) first last
  inside first last a b =
      let moved : first_mark (mark s block) (suc last - first) first last + 0 ≡ first_mark (shown s (w ++ block)) (suc last - first) first last + 0
      = first_moves (mark s block) (shown s (w ++ block)) 0 0 last last refl (suc last - first) first first refl
      (λ i h. block_marks (first + i) (omega arith) (omega arith)) in
      omega (arith, moved)

  -- those at the edge lie in the head
  module _ (head : List ℕ) (room : 96 ≤ length head) (heads : head ≡ head_of w block) where
    edge_marks : (i : ℕ) → i ≤ 48 → i ≤ length block → mark s head (48 + i) ≡ shown s (w ++ block) i
    edge_marks i a b =
        let here : 48 + i - 48 ≡ i = omega arith in
        marks_agree s head (w ++ block) (48 + i) (48 + i) (omega arith) (omega arith) (omega arith) (omega (arith, long))
        (ap₂ window heads here ∙ head_windows w block i whole a b ∙ ap (window (w ++ block)) (sym here))

    pub at_edge : (first last : ℕ) → last ≤ 48 → last ≤ length block
        → first_mark (mark s head) (suc (48 + last) - (48 + first)) (48 + first) (48 + last) ≡ 48 + first_mark (shown s (w ++ block)) (suc last - first) first last
    at_edge first last a b =
        let count : suc (48 + last) - (48 + first) ≡ suc last - first = omega arith in
        let moved : first_mark (mark s head) (suc last - first) (48 + first) (48 + last) + 0 ≡ first_mark (shown s (w ++ block)) (suc last - first) first last + 48
        = first_moves (mark s head) (shown s (w ++ block)) 48 0 (48 + last) last (omega arith) (suc last - first) (48 + first) first (omega arith)
        (λ i h. ap (mark s head) (omega arith) ∙ edge_marks (first + i) (omega arith) (omega arith)) in
        rw count (omega (arith, moved))
