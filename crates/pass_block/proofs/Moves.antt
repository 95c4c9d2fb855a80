-- The rule over the marks that a carry sees past the bytes taken: the cut in hand, and the cuts after one in the block.
use Prim.Native.Nat.{ℕ, suc, ◌+◌, ◌-◌, ◌≤◌, ◌<◌, min, max}
use mathlib.Core.Path.{◌≡◌, sym, ap, ◌∙◌}
use mathlib.Core.Bool.{Bool, false, ◌&&◌}
use mathlib.Core.List.{List, ◌++◌}
use native.Mathlib.Omega.{arith}
use lib.Dec.{ltb}
use lib.ListN.{length, take, drop}
use borrow.Author.Tests.{lt-ltb, le-ltb}
use Rattle.laws.proofs.Cases.{by_lt, clash}
use Rattle.rule.specs.Rule.{first_mark, next, hop}
use Rattle.rule.proofs.First.{First, at_mark, none_there, first-is, first_later, first_moves}
use Rattle.rule.proofs.Next.{next_moves}
use Rattle.signature.specs.Signatures.{signature_of}
use Rattle.cutting.specs.Marks.{mark, matches, next_cut}
use Rattle.cutting.proofs.Marked.{mark_within}
use Rattle.pass_carry.specs.declared.Carry.{Carry}
use Rattle.pass_carry.proofs.Usable.{Usable}
use Rattle.pass_carry.proofs.Sees.{Sees}
use Rattle.pass_carry.proofs.Bytes.{Continues}
use Rattle.pass_block.specs.Taking.{first_cut}
use Rattle.pass_block.proofs.Seen.{shown, long, block_marks}

-- the last cut before the block
abbrev last_cut : Carry → ℕ
last_cut c = c.taken - c.since

pub seen_by : Carry → List ℕ → ℕ → Bool
seen_by c block p = ltb c.taken p && shown c.settings (c.window ++ block) (p - c.taken)

-- the hop, and the next cut in a log that ends with the block
abbrev pub onward : Carry → List ℕ → ℕ → ℕ
onward c block = hop (seen_by c block) c.settings.minimum c.settings.maximum

abbrev pub to_end : Carry → List ℕ → ℕ → ℕ
to_end c block = next (seen_by c block) c.settings.minimum c.settings.maximum (c.taken + length block)

-- the offsets from the least cut on are past the bytes taken, but for those up to there
reach : (lo since taken : ℕ) → since ≤ taken → taken - since + lo ≤ taken + max (lo - since) 1
reach lo since taken h = omega arith

before_reach : (lo since taken q : ℕ) → since ≤ taken → taken - since + lo ≤ q → q < taken + max (lo - since) 1 → q ≤ taken
before_reach lo since taken q h a b = omega arith

module _ (c : Carry) (block : List ℕ) where
  seen_past : (i : ℕ) → 0 < i → seen_by c block (c.taken + i) ≡ shown c.settings (c.window ++ block) i
  unfolding seen_by
  seen_past i h =
      let there : c.taken + i - c.taken ≡ i = omega arith in
      rw (lt-ltb c.taken (c.taken + i) (omega arith), there)

  unseen : (p : ℕ) → p ≤ c.taken → seen_by c block p ≡ false
  unfolding seen_by
  unseen p h = rw (le-ltb c.taken p h)

  module _ (ok : Usable c) where
    -- a mark is an offset whose signature matches
    pub seen_signature : (i : ℕ) → 0 < i → i ≤ length block
        → seen_by c block (c.taken + i) ≡ matches c.settings (signature_of (take 48 (drop i (c.window ++ block))))
    seen_signature i h k =
        let there : 48 + i - 48 ≡ i = omega arith in
        seen_past i h
        ∙ mark_within c.settings (c.window ++ block) (48 + i) (omega arith) (omega (arith, long c.settings c.window block ok.whole))
        ∙ ap (λ q. matches c.settings (signature_of (take 48 (drop q (c.window ++ block))))) there

    pub sees_block : Sees (seen_by c block) c block
    sees_block =
        record {
          far = ok.ranged.window-fits;
          order = ok.ranged.ordered;
          whole = ok.whole;
          marks = λ i h p. seen_signature (suc i) (omega arith) h;
        }

    -- the hop in hand ends past the bytes taken
    pub continues_here : Continues (seen_by c block) c (last_cut c)
    unfolding hop
    continues_here =
        record {
          tied = omega (arith, ok.begun);
          ahead = ends (first-is (seen_by c block) (last_cut c + c.settings.maximum) (suc c.settings.maximum - c.settings.minimum) (last_cut c + c.settings.minimum));
        }
      where
        ends : {r : ℕ}
            → First (seen_by c block) (suc c.settings.maximum - c.settings.minimum) (last_cut c + c.settings.minimum) (last_cut c + c.settings.maximum) r
            → c.taken < r
        ends (at_mark r lo hi m u) = by_lt c.taken r (λ h. h) (λ h. absurd (clash (sym m ∙ unseen r h)))
        ends (none_there u) = omega (arith, ok.below, ok.begun)

    -- the next cut after the last before the block is the first that the block makes, or the block's end
    pub next_first : to_end c block (last_cut c) ≡ c.taken + first_cut c.settings c.since (c.window ++ block) (length block)
    unfolding next first_cut
    next_first =
        let lowest : ℕ = last_cut c + c.settings.minimum in
        let first : ℕ = max (c.settings.minimum - c.since) 1 in
        let last : ℕ = min (c.settings.maximum - c.since) (length block) in
        let top : min (last_cut c + c.settings.maximum) (c.taken + length block) ≡ c.taken + last = omega (arith, ok.begun, ok.below) in
        let count : suc (c.taken + last) - (c.taken + first) ≡ suc last - first = omega arith in
        let moved : first_mark (seen_by c block) (suc last - first) (c.taken + first) (c.taken + last) + 0
        ≡ first_mark (shown c.settings (c.window ++ block)) (suc last - first) first last + c.taken
        = first_moves (seen_by c block) (shown c.settings (c.window ++ block)) c.taken 0 (c.taken + last) last (omega arith) (suc last - first) (c.taken + first) first (omega arith)
        (λ i h. ap (seen_by c block) (omega arith) ∙ seen_past (first + i) (omega arith)) in
        ap (λ t. first_mark (seen_by c block) (suc t - lowest) lowest t) top
        ∙ first_later (seen_by c block) lowest (c.taken + last) (c.taken + first)
        (reach c.settings.minimum c.since c.taken ok.begun) (λ q a b below. unseen q (before_reach c.settings.minimum c.since c.taken q ok.begun a b))
        ∙ ap (λ k. first_mark (seen_by c block) k (c.taken + first) (c.taken + last)) count
        ∙ omega (arith, moved)

    -- and after a cut inside the block it is the block's own
    pub next_inside : (x : ℕ) → to_end c block (c.taken + x) ≡ c.taken + next_cut c.settings block x
    next_inside x =
        let moved : to_end c block (c.taken + x) + 0 ≡ next_cut c.settings block x + c.taken
        = next_moves (seen_by c block) (mark c.settings block) c.settings.minimum c.settings.maximum (c.taken + length block) (length block)
        c.taken 0 (omega arith) (c.taken + x) x (omega arith)
        (λ y lo hi h.
        ap (seen_by c block) (omega arith)
        ∙ seen_past (x + y) (omega (arith, ok.ranged.window-fits))
        ∙ sym (block_marks c.settings c.window block ok.whole (x + y) (omega (arith, ok.ranged.window-fits)) (omega arith))) in
        omega (arith, moved)
