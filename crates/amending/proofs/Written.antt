-- The three parts written one after the other: what the list holds after the last, and what that makes of the answer.
use Rattle.std.specs.Prelude.{Err}
use Prim.Native.Nat.{ℕ, zero, suc, ◌+◌, ◌-◌, ◌^◌, ◌≤◌, ◌<◌}
use mathlib.Core.Path.{◌≡◌, refl, sym, ap, ap₂, ◌∙◌, subst}
use mathlib.Core.Bool.{Bool, true}
use mathlib.Core.List.{List, [], ◌∷◌, ◌++◌, map}
use native.Mathlib.Nat.{zero-add}
use native.Mathlib.Omega.{arith}
use lib.ListN.{length, get_or, take, drop, length-append, length-map, length-drop}
use lib.Seq.{sets, length-sets, length-take-le, get_or-drop}
use borrow.Author.Tests.{le-ltb, lt-ltb}
use Rattle.laws.specs.Last.{last_or}
use Rattle.laws.proofs.Cases.{by_lt}
use Rattle.laws.proofs.Sets.{sets_joined, sets_written}
use Rattle.terms.specs.declared.Refusal.TheVariants.{ListFull}
use Rattle.lists.specs.WellFormed.{well_formed, length_of}
use Rattle.lists.proofs.Reaching.{Reaches, there, step, reaches, reaches_long, entries_low, entries_rise}
use Rattle.lists.specs.declared.Made.{Made}
use Rattle.lists.specs.Written.{written_list}
use Rattle.amending.specs.declared.edits.Edit.{Edit}
use Rattle.amending.specs.Answers.{amended}
use Rattle.amending.specs.Parts.{until, from, meets, front_count, front, past_front, restart, shifted, moved, recut, back, amended_list}
use Rattle.terms.specs.Rows.{verdict}
use Rattle.rule.specs.Rule.{chain, cuts_from}
use Rattle.terms.specs.declared.Settings.{Settings}
use Rattle.cutting.specs.Marks.{next_cut}
use Rattle.amending.specs.Answers.{edit_fits, new_cuts_of}
use Rattle.amending.proofs.Split.{split, joined}
use Rattle.amending.specs.Inner.{Ascends, Movable, Recutted, parts_answer}
use Rattle.amending.proofs.Fitting.{edit_told}
use Rattle.amending.proofs.Front.{count_fits}

-- what a well-formed list and an edit that fits it allow: every sum stays far below 64 bits
pub record Sound (old : List ℕ) (edit : Edit) : Type 0 where
  pub rises : Ascends old
  pub low : (i : ℕ) → get_or old i 0 ≤ 2 ^ 40
  pub few : length old ≤ 2 ^ 40
  pub behind : (k : ℕ) → k ≤ length old → k ≤ last_or 0 (take k old)
  pub place-low : edit.at + edit.added ≤ 2 ^ 40
  pub taken-low : edit.removed ≤ 2 ^ 40

-- first entries rise one by one at least
risen : {lo hi z b : ℕ} {l : List ℕ} → Reaches lo hi z b l → (k : ℕ) → k ≤ length l → b + k ≤ last_or b (take k l)
unfolding last_or
risen there zero h = omega arith
risen there (suc k) h = absurd (omega arith)
risen (step up near far more) zero h = omega arith
risen (step up near far more) (suc k) h = omega (arith, up, risen more k (omega arith))

pub sound : (lo hi : ℕ) (old : List ℕ) (edit : Edit) (bytes : ℕ) → well_formed lo hi old ≡ true → edit_fits (length_of old) edit bytes ≡ true → bytes ≤ 2 ^ 40
    → Sound old edit
unfolding well_formed length_of
sound lo hi old edit bytes ok fits short =
    let (reach, n-low) = reaches lo hi 0 old ok in
    let (inside, ends) = edit_told (last_or 0 old) edit bytes fits in
    record {
      rises = entries_rise reach;
      low = λ i. omega (arith, entries_low reach i);
      few = omega (arith, reaches_long reach);
      behind = λ k h. omega (arith, risen reach k h);
      place-low = omega arith;
      taken-low = omega arith;
    }

module _ {old : List ℕ} {edit : Edit} (fine : Sound old edit) where
  -- the back can be moved
  pub back_movable : (kept passed : ℕ) → ((i : ℕ) → i < length (drop passed (drop kept old)) → edit.removed ≤ get_or (drop passed (drop kept old)) i 0 + edit.added)
      → Movable edit.removed edit.added (drop passed (drop kept old))
  back_movable kept passed high i h =
      let is : get_or (drop passed (drop kept old)) i 0 ≡ get_or old (kept + (passed + i)) 0 = get_or-drop passed (drop kept old) i 0 ∙ get_or-drop kept old (passed + i) 0 in
      (high i h, omega (arith, is, fine.low (kept + (passed + i)), fine.place-low))

-- there are no more cuts than bytes
chain_short : (next : ℕ → ℕ) (n k c : ℕ) → length (chain next n k c) ≤ k
unfolding chain
chain_short next n zero c = omega arith
chain_short next n (suc k) c =
    by_lt c n
    (λ more. rw (lt-ltb c n more, length) (omega (arith, chain_short next n k (next c))))
    (λ over. rw (le-ltb c n over, length) (omega arith))

until_short : (test : ℕ → Bool) (l : List ℕ) → length (until test l) ≤ length l
until_short test l = omega (arith, ap length (joined (split test l)), length-append (until test l) (from test l))

pub few_made : (settings : Settings) (log : List ℕ) {edit : Edit} {past list list' : List ℕ} {before after : Made} {passed : ℕ}
    → Recutted edit past (new_cuts_of settings log before.cut) before after list list' passed → after.count ≤ before.count + length log
unfolding cuts_from
few_made settings log {edit} {past} {before = before} r =
    let short = until_short (meets edit past) (new_cuts_of settings log before.cut) in
    omega (arith, r.puts.counted, short, chain_short (next_cut settings log) (length log) (length log - before.cut) before.cut)

-- nor more entries in all than places that 64 bits count: those kept and made anew, and those past the front that were not passed
pub few_left : (settings : Settings) (log : List ℕ) {old : List ℕ} {edit : Edit} → Sound old edit → length log ≤ 2 ^ 40
    → {past list list' : List ℕ} {before after : Made} {passed : ℕ} → Recutted edit past (new_cuts_of settings log before.cut) before after list list' passed
    → length past + before.count ≡ length old → after.count + length (drop passed past) < 2 ^ 64
few_left settings log fine short {past} {passed = passed} made whole = omega (arith, few_made settings log made, whole, fine.few, short, length-drop passed past)

unmoved : (l : List ℕ) → map (shifted 0 0) l ≡ l
unmoved [] = refl
unmoved (x ∷ l) = ap₂ ◌∷◌ (omega arith) (unmoved l)

three_written : (l f r b : List ℕ) → sets (sets (sets l 0 f) (length f) r) (length f + length r) b ≡ written_list (f ++ (r ++ b)) l
unfolding written_list
three_written l f r b =
    sym (rw zero-add at (sets_joined l 0 f (r ++ b) ∙ sets_joined (sets l 0 f) (0 + length f) r b)) ∙ sets_written l (f ++ (r ++ b))

-- once the three parts are written, as far as the list goes; so many entries stand before the back
pub record Done (new_cuts : ℕ → List ℕ) (old : List ℕ) (edit : Edit) (list₀ list : List ℕ) (kept made left : ℕ) : Type 0 where
  pub fronts : length (front edit.at old) ≡ kept
  pub recuts : kept + length (recut new_cuts old edit) ≡ made
  pub backs : length (back new_cuts old edit) ≡ left
  pub holds : list ≡ written_list (amended_list new_cuts old edit) list₀
  pub room : length list ≡ length list₀

module _ (new_cuts : ℕ → List ℕ) (old : List ℕ) (edit : Edit) (list₀ : List ℕ) {list₁ list₂ list : List ℕ} {before after : Made} {passed : ℕ}
    (is : before.count ≡ front_count edit.at old) (copied : list₁ ≡ sets list₀ 0 (map (shifted 0 0) (take before.count old))) (restarts : before.cut ≡ last_or 0 (take before.count old))
    (made : Recutted edit (drop before.count old) (new_cuts before.cut) before after list₁ list₂ passed)
    (moves : list ≡ sets list₂ after.count (map (moved edit) (drop passed (drop before.count old)))) where
  -- the kept entries are the front, what follows it is past it, and cutting restarted where it should
  again : Recutted edit (past_front edit.at old) (new_cuts (restart edit.at old)) before after list₁ list₂ passed
  unfolding past_front restart front
  again =
      subst (λ k. Recutted edit (drop k old) (new_cuts (last_or 0 (take k old))) before after list₁ list₂ passed) is
      (subst (λ c. Recutted edit (drop before.count old) (new_cuts c) before after list₁ list₂ passed) restarts made)

  pub parts_done : Done new_cuts old edit list₀ list before.count after.count (length (drop passed (drop before.count old)))
  unfolding front past_front restart amended_list recut back
  parts_done =
      let fronts : length (take (front_count edit.at old) old) ≡ before.count = length-take-le _ old (count_fits edit.at old) ∙ sym is in
      let backs : back new_cuts old edit ≡ map (moved edit) (drop passed (drop before.count old)) =
      again.onward ∙ ap (λ k. map (moved edit) (drop passed (drop k old))) (sym is) in
      let first : list₁ ≡ sets list₀ 0 (front edit.at old) = copied ∙ ap (sets list₀ 0) (unmoved (take before.count old) ∙ ap (λ k. take k old) is) in
      record {
        fronts = fronts;
        recuts = sym again.puts.counted;
        backs = ap length backs ∙ length-map (drop passed (drop before.count old)) (moved edit);
        holds =
            moves ∙ rw (← backs, again.puts.kept, first, again.puts.counted, sym fronts) (three_written list₀ (front edit.at old) (recut new_cuts old edit) (back new_cuts old edit));
        room = rw (moves, length-sets, again.puts.kept, length-sets, copied, length-sets);
      }

-- the answer, by the places there are
module _ {new_cuts : ℕ → List ℕ} {old : List ℕ} {edit : Edit} {list₀ list : List ℕ} {kept made left : ℕ} (done : Done new_cuts old edit list₀ list kept made left) where
  size : length (amended_list new_cuts old edit) ≡ made + left
  unfolding amended_list
  size = rw (length-append, length-append, done.fronts, done.backs) (omega (arith, done.recuts))

  pub parts_full : length list < made + left
      → (Err ListFull ≡ parts_answer new_cuts old edit (length list₀)) × (list ≡ written_list (amended_list new_cuts old edit) list₀)
  unfolding parts_answer verdict
  parts_full h = (rw (lt-ltb (length list₀) (length (amended_list new_cuts old edit)) (omega (arith, size, done.room))), done.holds)

  pub parts_fit : made + left ≤ length list
      → (amended kept (made - kept) left ≡ parts_answer new_cuts old edit (length list₀)) × (list ≡ written_list (amended_list new_cuts old edit) list₀)
  unfolding parts_answer verdict
  parts_fit h =
      let recuts : length (recut new_cuts old edit) ≡ made - kept = omega (arith, done.recuts) in
      (rw (le-ltb (length list₀) (length (amended_list new_cuts old edit)) (omega (arith, size, done.room)), done.fronts, recuts, done.backs), done.holds)
