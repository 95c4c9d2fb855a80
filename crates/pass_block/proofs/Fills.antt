-- A block's cuts put into a lent list: what is known after each, and what that says at the end.
use Prim.Native.Nat.{ℕ, ◌+◌, ◌-◌, ◌≤◌, ◌<◌, min}
use mathlib.Core.Path.{◌≡◌, sym, ap, ◌∙◌}
use mathlib.Core.Bool.{true, false, ◌&&◌, ◌||◌}
use mathlib.Core.List.{List, [], ◌∷◌, ◌++◌}
use native.Mathlib.Omega.{arith}
use lib.Dec.{leb, eqb}
use lib.ListN.{length}
use lib.Seq.{take_all}
use borrow.Author.Tests.{lt-ltb, le-ltb}
use Rattle.laws.proofs.Cases.{by_lt, clash}
use Rattle.terms.specs.declared.Settings.{Settings}
use Rattle.rule.proofs.Next.{next_step}
use Rattle.rule.proofs.Hops.{UpTo, leaps, no_more, hop_rises, next-hop}
use Rattle.laws.specs.Last.{last_or}
use Rattle.lists.specs.declared.Made.{Made}
use Rattle.lists.specs.Puts.{Puts}
use Rattle.lists.proofs.Putting.{Underway, begin, rest-is, more, ended}
use Rattle.signature.specs.Signatures.{signature_of}
use Rattle.cutting.specs.Marks.{mark, matches, next_cut}
use Rattle.pass_carry.specs.declared.Carry.{Carry}
use Rattle.pass_carry.specs.Carries.{slid_by, cuts_in}
use Rattle.pass_carry.proofs.Usable.{Usable}
use Rattle.pass_carry.proofs.Bytes.{block_hops, cut_here, none_here}
use Rattle.pass_carry.proofs.Parts.{length_slid_by}
use Rattle.pass_block.specs.Taking.{first_cut, is_cut, begun}
use Rattle.pass_block.proofs.Moves.{seen_by, onward, to_end, seen_signature, sees_block, continues_here, next_first, next_inside}

-- the cuts up to the last one made are put and the rest are to come; next is the block's offset where the piece from that cut on can end
pub record Filling (c : Carry) (block list₀ list : List ℕ) (made : Made) (next : ℕ) : Type 0 where
  pub rest : List ℕ
  pub final : ℕ
  pub way : Underway (cuts_in c block) rest (begun c) made list₀ list
  pub coming : UpTo (onward c block) (c.taken + length block) made.cut rest final
  pub ahead : to_end c block made.cut ≡ c.taken + next
  pub after : made.cut ≤ c.taken + next
  pub inside : next ≤ length block

below_end : (s : Settings) (left piece signature : ℕ) → 0 < left → is_cut s left piece signature ≡ true
unfolding is_cut
below_end s left piece signature h = rw (lt-ltb 0 left h)

-- at the block's end the test is the rule's
end_test : (c : Carry) (block : List ℕ) → Usable c → 0 < length block → (left piece signature : ℕ) → left ≡ 0 → signature ≡ signature_of (slid_by c.window block)
    → is_cut c.settings left piece signature
    ≡ (leb c.settings.minimum piece && (seen_by c block (c.taken + length block) || eqb piece c.settings.maximum))
unfolding is_cut
end_test c block ok some left piece signature none is-signature =
    let same : seen_by c block (c.taken + length block) ≡ matches c.settings signature
    = seen_signature c block ok (length block) some (omega arith)
    ∙ ap (λ w. matches c.settings (signature_of w)) (take_all 48 (slid_by c.window block) (omega (arith, length_slid_by c.window block ok.whole)))
    ∙ ap (matches c.settings) (sym is-signature) in
    rw (le-ltb 0 left (omega arith), same)

module _ (c : Carry) (block : List ℕ) (ok : Usable c) (some : 0 < length block) where
  pub start : (list : List ℕ) {made : Made} → made.count ≡ 0 → made.cut ≡ c.taken - c.since → (first : ℕ)
      → first ≡ first_cut c.settings c.since (c.window ++ block) (length block) → Filling c block list list made first
  start list none is-last first e =
      let last = c.taken - c.since in
      let here : to_end c block last ≡ c.taken + first = next_first c block ok ∙ ap (λ x. c.taken + x) (sym e) in
      let hopped = block_hops (seen_by c block) block c last (sees_block c block ok) (continues_here c block ok) in
      let within = (next_step (seen_by c block) c.settings.minimum c.settings.maximum (c.taken + length block) last ok.ranged.ordered).inside in
      record {
        rest = cuts_in c block;
        final = hopped.last;
        way = begin (cuts_in c block) list none is-last;
        coming = rw is-last hopped.cuts;
        ahead = rw is-last here;
        after = omega arith;
        inside = omega (arith, here, within);
      }

  rises : (m : ℕ) → m < onward c block m
  rises = hop_rises (seen_by c block) c.settings.minimum c.settings.maximum ok.ranged.positive ok.ranged.ordered

  -- the next cut moves on, but at the block's end
  moves : {next r : ℕ} → next ≤ length block → r ≡ next_cut c.settings block next → (next ≤ r) × (r ≤ length block) × (next < length block → next < r)
  moves {next} {r} h e =
      let step = next_step (mark c.settings block) c.settings.minimum c.settings.maximum (length block) next ok.ranged.ordered in
      by_lt next (length block)
      (λ k. let up : next < next_cut c.settings block next = step.onward ok.ranged.positive k in (omega arith, omega (arith, step.inside), λ z. omega arith))
      (λ k. by_lt r (length block) (λ j. absurd (omega (arith, step.at_least (omega arith)))) (λ j. (omega arith, omega (arith, step.inside), λ z. absurd (omega arith))))

  module _ {list₀ list : List ℕ} {made : Made} {next : ℕ} (f : Filling c block list₀ list made next) (signature : ℕ)
      (is-signature : signature ≡ signature_of (slid_by c.window block)) where
    abbrev cut : ℕ
    cut = made.cut

    abbrev piece : ℕ
    piece = c.taken + next - cut

    abbrev last : ℕ
    last = c.taken + length block

    -- the piece reaches to the block's end
    ends : length block ≤ next → cut + piece ≡ last
    ends h = omega (arith, f.after, f.inside)

    shortened : min (onward c block cut) (c.taken + length block) ≡ c.taken + next
    shortened = sym (next-hop (seen_by c block) c.settings.minimum c.settings.maximum (c.taken + length block) cut) ∙ f.ahead

    -- the offset is a cut
    is_cut_lem : is_cut c.settings (length block - next) piece signature ≡ true → onward c block cut ≡ c.taken + next
    is_cut_lem t =
        by_lt next (length block)
        (λ h. omega (arith, shortened))
        (λ h.
        cut_here (seen_by c block) c.settings.minimum c.settings.maximum cut piece last (ends h) ok.ranged.ordered (omega (arith, shortened))
        (sym (end_test c block ok some (length block - next) piece signature (omega arith) is-signature) ∙ t)
        ∙ omega (arith, f.inside))

    -- it is not: the block's end, and the piece goes on
    no_cut : is_cut c.settings (length block - next) piece signature ≡ false → c.taken + length block < onward c block cut
    no_cut t =
        by_lt next (length block)
        (λ h. absurd (clash (sym (below_end c.settings (length block - next) piece signature (omega arith)) ∙ t)))
        (λ h.
        none_here (seen_by c block) c.settings.minimum c.settings.maximum cut piece last (ends h) ok.ranged.ordered (omega (arith, shortened))
        (sym (end_test c block ok some (length block - next) piece signature (omega arith) is-signature) ∙ t))

    -- the cuts rise
    pub above : is_cut c.settings (length block - next) piece signature ≡ true → cut < c.taken + next
    above t = omega (arith, rises cut, is_cut_lem t)

    module _ (t : is_cut c.settings (length block - next) piece signature ≡ true) {after : Made} {list' : List ℕ}
        (put : Puts ((c.taken + next) ∷ []) made after list list') {r : ℕ} (e : r ≡ next_cut c.settings block next) where
      pub turn : Filling c block list₀ list' after r
      unfolding last_or
      turn =
          let on = leaps f.coming (is_cut_lem t) (omega (arith, f.inside)) in
          record {
            rest = on.0;
            final = f.final;
            way = more ((c.taken + next) ∷ []) (rest-is _ on.1 f.way) put;
            coming = rw put.last on.2;
            ahead = rw put.last (next_inside c block ok next ∙ ap (λ x. c.taken + x) (sym e));
            after = omega (arith, put.last, (moves f.inside e).0);
            inside = (moves f.inside e).1;
          }

      -- the bytes left fall; at the block's end, where there are none, the piece does
      pub falls : length block - r + min (c.taken + r - after.cut) 1 < length block - next + min piece 1
      unfolding last_or
      falls =
          let on = moves f.inside e in
          let some-piece : 0 < piece = omega (arith, above t) in
          by_lt next (length block) (λ h. let up = on.2 h in omega arith) (λ h. omega (arith, put.last))

    -- all cuts are made
    pub done : is_cut c.settings (length block - next) piece signature ≡ false → Puts (cuts_in c block) (begun c) made list₀ list
    done t = ended (rest-is [] (no_more f.coming (no_cut t)).0 f.way)
