-- Where the first piece that ends in a block ends: a mark is sought first at the block's edge, then inside the block.
use Prim.Native.Nat.{ℕ, suc, ◌+◌, ◌-◌, ◌≤◌, ◌<◌, min, max}
use mathlib.Core.Path.{◌≡◌, sym, ap₂, ◌∙◌}
use mathlib.Core.List.{List, ◌++◌}
use native.Mathlib.Omega.{arith}
use lib.ListN.{length, take}
use lib.Seq.{length-take-le}
use Rattle.terms.specs.declared.Settings.{Settings}
use Rattle.rule.specs.Rule.{first_mark}
use Rattle.rule.proofs.First.{first_early, none_early, first_later}
use Rattle.cutting.specs.Marks.{mark}
use Rattle.pass_block.specs.Taking.{head_of, first_cut}
use Rattle.pass_block.proofs.Seen.{shown, at_edge, inside}

-- where the search inside the block starts, and what lies before that and before last
low : (first : ℕ) → (48 ≤ max first 48) × (first ≤ max first 48)
low first = omega arith

at_first : (first last edge q : ℕ) → edge ≡ min 48 last → first ≤ q → q < max first 48 → q < last → q < edge
at_first first last edge q e a b below = omega arith

-- the search's bounds first, last and edge; the head is the window and the block's first bytes, and the search in it gave r
pub record EdgeSearched (s : Settings) (since : ℕ) (head block : List ℕ) (first last edge r : ℕ) : Type 0 where
  pub starts : first ≡ max (s.minimum - since) 1
  pub stops : last ≡ min (s.maximum - since) (length block)
  pub is_edge : edge ≡ min 48 last
  pub room : length head ≡ 96
  pub heads : head ≡ head_of (take 48 head) block
  pub told : r ≡ first_mark (mark s head) (suc (48 + edge) - (48 + first)) (48 + first) (48 + edge)

module _ {s : Settings} {since : ℕ} {head block : List ℕ} {first last edge r : ℕ} (is : EdgeSearched s since head block first last edge r) where
  window_long : length (take 48 head) ≡ 48
  window_long = length-take-le 48 head (omega (arith, is.room))

  cut_is : first_cut s since (take 48 head ++ block) (length block) ≡ first_mark (shown s (take 48 head ++ block)) (suc last - first) first last
  unfolding first_cut
  cut_is = sym (ap₂ (λ a b. first_mark (shown s (take 48 head ++ block)) (suc b - a) a b) is.starts is.stops)

  edge_found : r ≡ 48 + first_mark (shown s (take 48 head ++ block)) (suc edge - first) first edge
  edge_found =
      is.told
      ∙ at_edge s (take 48 head) block window_long head (omega (arith, is.room)) is.heads first edge (omega (arith, is.is_edge)) (omega (arith, is.is_edge, is.stops))

  pub edge_far : 48 ≤ r
  edge_far = omega (arith, edge_found)

  edge_is : r - 48 ≡ first_mark (shown s (take 48 head ++ block)) (suc edge - first) first edge
  edge_is = omega (arith, edge_found)

  pub ends_early : r - 48 < edge → r - 48 ≡ first_cut s since (take 48 head ++ block) (length block)
  ends_early h = edge_is ∙ sym (cut_is ∙ first_early (shown s (take 48 head ++ block)) first last edge (omega (arith, is.is_edge)) (rw edge_is at h))

  pub ends_late : edge ≤ r - 48 → {from q : ℕ} → from ≡ max first 48 → q ≡ first_mark (mark s block) (suc last - from) from last
      → q ≡ first_cut s since (take 48 head ++ block) (length block)
  ends_late h {from} {q} e f =
      (rw e at f) ∙ inside s (take 48 head) block window_long (max first 48) last (low first).0 (omega (arith, is.stops))
      ∙ sym (cut_is ∙ first_later (shown s (take 48 head ++ block)) first last (max first 48) (low first).1
      (λ k a b below. none_early (shown s (take 48 head ++ block)) first last edge (rw edge_is at h) k a (at_first first last edge k is.is_edge a b below)))
