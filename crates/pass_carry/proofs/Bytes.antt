-- The rule byte by byte makes the hops: one byte more adds that cut or none, and so does each byte of a block.
use Prim.Native.Nat.{ℕ, suc, ◌+◌, ◌≤◌, ◌<◌}
use mathlib.Core.Path.{◌≡◌, sym, ◌∙◌, subst, subst₂}
use mathlib.Core.Bool.{Bool, true, false, ◌&&◌, ◌||◌}
use mathlib.Core.List.{List, [], ◌∷◌, ◌++◌}
use native.Mathlib.Omega.{arith}
use lib.Dec.{leb, eqb}
use lib.ListN.{length, take, drop}
use borrow.Author.Tests.{le-leb, lt-leb, eqb-true, eqb-false}
use Rattle.laws.proofs.Cases.{by_lt, by_test, clash}
use Rattle.rule.specs.Rule.{hop}
use Rattle.rule.proofs.Hops.{UpTo, past, hop_to, hop_long, hop_rises, hop_here, hop_on}
use Rattle.signature.specs.Signatures.{signature_of}
use Rattle.cutting.specs.Marks.{matches}
use Rattle.pass_carry.specs.declared.Carry.{Carry}
use Rattle.pass_carry.specs.Carries.{cuts_at, byte_taken, cuts_in}
use Rattle.pass_carry.proofs.OneByte.{since_cut, since_on, cuts_cut, cuts_on}
use Rattle.pass_carry.proofs.Sees.{Sees, first_window, sees_on}

-- p is the offset looked at, d bytes past the last cut m, and no hop from m has passed it
module _ (mark : ℕ → Bool) (lo hi m d p : ℕ) (tied : m + d ≡ p) (order : lo ≤ hi) (ahead : p ≤ hop mark lo hi m) where
  near : p ≤ m + hi
  near = omega (arith, hop_long mark lo hi m order)

  pub cut_here : (leb lo d && (mark p || eqb d hi)) ≡ true → hop mark lo hi m ≡ p
  cut_here cuts =
      by_lt d lo
      (λ short. absurd (clash (sym cuts ∙ rw (lt-leb lo d short))))
      (λ long. by_test (mark p)
      (λ e. hop_here mark lo hi m p ahead (omega arith) near e)
      (λ e. let full : d ≡ hi = eqb-true d hi (rw (le-leb lo d long, e) at cuts) in omega (arith, hop_long mark lo hi m order)))

  pub none_here : (leb lo d && (mark p || eqb d hi)) ≡ false → p < hop mark lo hi m
  none_here passes =
      by_lt d lo
      (λ short. omega (arith, hop_long mark lo hi m order))
      (λ long. by_test (mark p)
      (λ e. absurd (clash (rw (le-leb lo d long, e) at passes)))
      (λ e. let short : (d ≡ hi → ⊥) = eqb-false d hi (rw (le-leb lo d long, e) at passes) in
      hop_on mark lo hi m p ahead (omega (arith, near)) e))

-- m is the last cut, and the hop from it ends past the bytes that the carry has taken
pub record Continues (mark : ℕ → Bool) (c : Carry) (m : ℕ) : Type 0 where
  pub tied : m + c.since ≡ c.taken
  pub ahead : c.taken < hop mark c.settings.minimum c.settings.maximum m

-- where the block leaves off: last is the last cut, and the cuts made are the hops from m
pub record Hopped (mark : ℕ → Bool) (c : Carry) (block : List ℕ) (m : ℕ) : Type 0 where
  pub last : ℕ
  pub cuts : UpTo (hop mark c.settings.minimum c.settings.maximum) (c.taken + length block) m (cuts_in c block) last

module _ (mark : ℕ → Bool) (c : Carry) (b : ℕ) (bs : List ℕ) (sees : Sees mark c (b ∷ bs)) {m : ℕ} (at : Continues mark c m) where
  -- the test of the definition is the rule's
  test_here : cuts_at c b ≡ (leb c.settings.minimum (c.since + 1) && (mark (c.taken + 1) || eqb (c.since + 1) c.settings.maximum))
  unfolding cuts_at
  test_here =
      by_lt (c.since + 1) c.settings.minimum
      (λ short. rw (lt-leb c.settings.minimum (c.since + 1) short))
      (λ long.
      let here : mark (c.taken + 1) ≡ matches c.settings (signature_of (take 48 (drop 1 (c.window ++ (b ∷ bs)))))
      = sees.marks 0 (omega arith) (omega (arith, sees.far, at.tied)) in
      rw (here, first_window c.window b sees.whole bs))

  -- the byte ends a piece: the hop from m ends here
  cut_on : cuts_at c b ≡ true → (hop mark c.settings.minimum c.settings.maximum m ≡ c.taken + 1) × Continues mark (byte_taken c b) (c.taken + 1)
  unfolding byte_taken
  cut_on e = (
    cut_here mark c.settings.minimum c.settings.maximum m (c.since + 1) (c.taken + 1) (omega (arith, at.tied)) sees.order (omega (arith, at.ahead)) (sym test_here ∙ e),
    record {
      tied = omega (arith, since_cut c b e);
      ahead = hop_rises mark c.settings.minimum c.settings.maximum (omega (arith, sees.far)) sees.order (c.taken + 1);
    },
  )

  -- it does not: the hop from m goes on
  none_on : cuts_at c b ≡ false → Continues mark (byte_taken c b) m
  unfolding byte_taken
  none_on e =
      record {
        tied = omega (arith, since_on c b e, at.tied);
        ahead = none_here mark c.settings.minimum c.settings.maximum m (c.since + 1) (c.taken + 1) (omega (arith, at.tied)) sees.order (omega (arith, at.ahead)) (sym test_here ∙ e);
      }

-- a block's cuts are the hops up to its end, from the last cut before it
pub block_hops : (mark : ℕ → Bool) (block : List ℕ) (c : Carry) (m : ℕ) → Sees mark c block → Continues mark c m → Hopped mark c block m
unfolding byte_taken cuts_in
block_hops mark [] c m sees at =
    record {
      last = m;
      cuts = past {c = m} (omega (arith, at.ahead));
    }
block_hops mark (b ∷ bs) c m sees at =
    let onward : ℕ → ℕ = hop mark c.settings.minimum c.settings.maximum in
    let longer : c.taken + 1 + length bs ≡ c.taken + suc (length bs) = omega arith in
    by_test (cuts_at c b)
    (λ e.
    let on = cut_on mark c b bs sees at e in
    let rest = block_hops mark bs (byte_taken c b) (c.taken + 1) (sees_on mark c b bs sees) on.1 in
    record {
      last = rest.last;
      cuts = subst (λ l. UpTo onward (c.taken + suc (length bs)) m l rest.last) (sym (cuts_cut c b e bs))
          (hop_to on.0 (omega arith) (subst (λ x. UpTo onward x (c.taken + 1) (cuts_in (byte_taken c b) bs) rest.last) longer rest.cuts));
    })
    (λ e.
    let rest = block_hops mark bs (byte_taken c b) m (sees_on mark c b bs sees) (none_on mark c b bs sees at e) in
    record {
      last = rest.last;
      cuts = subst₂ (λ x l. UpTo onward x m l rest.last) longer (sym (cuts_on c b e bs)) rest.cuts;
    })
