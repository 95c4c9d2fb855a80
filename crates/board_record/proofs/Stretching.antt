-- Marks and hops found in a stretch, as the code finds them.
use Prim.Native.Nat.{ℕ, suc, ◌+◌, ◌-◌, ◌≤◌, ◌<◌, min}
use mathlib.Core.Path.{◌≡◌, ap, ◌∙◌}
use mathlib.Core.Bool.{true, false}
use mathlib.Core.List.{List, [], ◌∷◌}
use native.Mathlib.Nat.{add-zero}
use native.Mathlib.Omega.{arith}
use lib.ListN.{length}
use Rattle.laws.proofs.Cases.{by_lt}
use Rattle.terms.proofs.Ranges.{Ranges}
use Rattle.rule.proofs.Leaps.{first_hop, forced_hop, past_hop}
use Rattle.terms.specs.declared.Settings.{Settings}
use Rattle.rule.specs.Rule.{hop, hops, cuts_up_to}
use Rattle.rule.proofs.First.{first_moves}
use Rattle.rule.proofs.Hops.{past, leap, up_to, listed, hop_long, hop_rises}
use Rattle.cutting.specs.Marks.{mark}
use Rattle.cutting.specs.declared.search.Spot.{Spot}
use Rattle.cutting.specs.Search.{Seek}
use Rattle.cutting.proofs.Searching.{none_found}
use Rattle.lists.specs.declared.Made.{Made}
use Rattle.lists.specs.Puts.{Puts}
use Rattle.lists.proofs.Putting.{Underway, rest-is, more, put_last, ended}
use Rattle.board_record.specs.Stretches.{mark_from}

-- the hop from a cut of the stretch, for each way the code goes
module _ (s : Settings) (stretch : List ℕ) (cut : ℕ) (ok : Ranges s) where
  pub too_near : length stretch < cut + s.minimum → length stretch < hop (mark s stretch) s.minimum s.maximum cut
  too_near h = omega (arith, hop_long (mark s stretch) s.minimum s.maximum cut ok.ordered)

  module _ {last : ℕ} (ends : last ≡ min (cut + s.maximum) (length stretch)) {r : Spot} where
    pub marked_hop : Seek s stretch (cut + s.minimum) last r true → (r.at ≤ length stretch) × (hop (mark s stretch) s.minimum s.maximum cut ≡ r.at)
    marked_hop k = (
      omega (arith, k.inside),
      first_hop (mark s stretch) s.minimum s.maximum cut r.at k.begun (omega (arith, k.inside)) k.told k.clear,
    )

    module _ (k : Seek s stretch (cut + s.minimum) last r false) where
      pub forced_end : cut ≤ length stretch → last - cut ≡ s.maximum → (last ≤ length stretch) × (hop (mark s stretch) s.minimum s.maximum cut ≡ last)
      forced_end inside e = (
        omega arith,
        forced_hop (mark s stretch) s.minimum s.maximum cut (λ q x y. none_found s stretch k q x (omega arith)) ∙ omega arith,
      )

      pub open_end : cut ≤ length stretch → (last - cut ≡ s.maximum → ⊥) → length stretch < hop (mark s stretch) s.minimum s.maximum cut
      open_end inside ne =
          let short : length stretch < cut + s.maximum = by_lt (length stretch) (cut + s.maximum) (λ h. h) (λ h. absurd (ne (omega arith))) in
          past_hop (mark s stretch) s.minimum s.maximum cut (length stretch) short (λ q x y. none_found s stretch k q x (omega arith))

-- the marks of a stretch counted from its place in the log: the hops there are those of the stretch, moved
module _ (s : Settings) (stretch : List ℕ) (base : ℕ) (ok : Ranges s) where
  hop_moved : (c : ℕ) → base ≤ c
      → hop (mark s stretch) s.minimum s.maximum (c - base) + base ≡ hop (mark_from s stretch base) s.minimum s.maximum c
  unfolding hop mark_from
  hop_moved c h =
      let lo : ℕ = s.minimum in
      let hi : ℕ = s.maximum in
      first_moves (mark s stretch) (λ p. mark s stretch (p - base)) 0 base (c - base + hi) (c + hi) (omega arith) (suc hi - lo) (c - base + lo) (c + lo) (omega arith)
      (λ i k. ap (mark s stretch) (omega arith))
      ∙ add-zero _

  rises : (c : ℕ) → c < hop (mark_from s stretch base) s.minimum s.maximum c
  rises = hop_rises (mark_from s stretch base) s.minimum s.maximum (omega (arith, ok.window-fits)) ok.ordered

  module _ (cut : ℕ) (h : base ≤ cut) where
    pub rises_past : {r : ℕ} → hop (mark s stretch) s.minimum s.maximum (cut - base) ≡ r → cut < base + r
    rises_past is = omega (arith, hop_moved cut h, is, rises cut)

    pub cuts_on : {r : ℕ} → r ≤ length stretch → hop (mark s stretch) s.minimum s.maximum (cut - base) ≡ r
        → cuts_up_to (mark_from s stretch base) s.minimum s.maximum (base + length stretch) cut
        ≡ (base + r) ∷ cuts_up_to (mark_from s stretch base) s.minimum s.maximum (base + length stretch) (base + r)
    unfolding cuts_up_to
    cuts_on {r} inside is =
        let here : hop (mark_from s stretch base) s.minimum s.maximum cut ≡ base + r = omega (arith, hop_moved cut h, is) in
        let e : ℕ = base + length stretch in
        listed (hop (mark_from s stretch base) s.minimum s.maximum) e rises
        (leap (rw here (omega arith)) (up_to (hop (mark_from s stretch base) s.minimum s.maximum) e rises _))
        ∙ ap (λ x. x ∷ hops (hop (mark_from s stretch base) s.minimum s.maximum) e (e - x) x) here

    pub cuts_none : length stretch < hop (mark s stretch) s.minimum s.maximum (cut - base)
        → cuts_up_to (mark_from s stretch base) s.minimum s.maximum (base + length stretch) cut ≡ []
    unfolding cuts_up_to
    cuts_none far =
        listed (hop (mark_from s stretch base) s.minimum s.maximum) (base + length stretch) rises (past (omega (arith, hop_moved cut h, far)))

-- the cuts up to the last one made are put, and those after it are left
pub record Cutting (s : Settings) (stretch : List ℕ) (base : ℕ) (before : Made) (list₀ : List ℕ) (now : Made) (list : List ℕ) : Type 0 where
  pub from : base ≤ now.cut
  pub inside : now.cut ≤ base + length stretch
  pub way : Underway (cuts_up_to (mark_from s stretch base) s.minimum s.maximum (base + length stretch) before.cut)
      (cuts_up_to (mark_from s stretch base) s.minimum s.maximum (base + length stretch) now.cut) before now list₀ list

module _ (s : Settings) (stretch : List ℕ) (base : ℕ) (ok : Ranges s) {before now : Made} {list₀ list : List ℕ}
    (w : Cutting s stretch base before list₀ now list) where
  pub cut_on : {r : ℕ} → r ≤ length stretch → hop (mark s stretch) s.minimum s.maximum (now.cut - base) ≡ r
      → {after : Made} {list' : List ℕ} → Puts ((base + r) ∷ []) now after list list' → Cutting s stretch base before list₀ after list'
  cut_on {r} inside is {after} p =
      let last : after.cut ≡ base + r = put_last p in
      record {
        from = omega (arith, last);
        inside = omega (arith, last);
        way = more ((base + r) ∷ [])
            (rest-is ((base + r) ∷ cuts_up_to (mark_from s stretch base) s.minimum s.maximum (base + length stretch) after.cut)
            (rw last (cuts_on s stretch base ok now.cut w.from inside is)) w.way) p;
      }

  pub cuts_done : length stretch < hop (mark s stretch) s.minimum s.maximum (now.cut - base)
      → Puts (cuts_up_to (mark_from s stretch base) s.minimum s.maximum (base + length stretch) before.cut) before now list₀ list
  cuts_done far = ended (rest-is [] (cuts_none s stretch base ok now.cut w.from far) w.way)
