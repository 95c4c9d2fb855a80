-- The search for the next mark, over numbers and lists alone: what is known at each offset, and what that says where it stops.
use Prim.Native.Nat.{ℕ, suc, ◌+◌, ◌-◌, ◌≤◌, ◌<◌, min}
use mathlib.Core.Path.{◌≡◌, refl, sym, ap, ◌∙◌}
use mathlib.Core.Bool.{Bool, true, false}
use mathlib.Core.List.{List}
use native.Mathlib.Omega.{arith}
use lib.ListN.{length, get_or}
use Rattle.laws.proofs.Cases.{by_lt, clash}
use Rattle.terms.specs.declared.Settings.{Settings}
use Rattle.rule.specs.Rule.{first_mark, next, Unmarked}
use Rattle.rule.proofs.First.{first_at, first-none}
use Rattle.signature.specs.Signatures.{degree, low_part, rolled, signature_of, window}
use Rattle.laws.specs.Bytes.{Bytes}
use Rattle.signature.proofs.Windows.{roll_slides}
use Rattle.cutting.specs.declared.search.Spot.{Spot}
use Rattle.cutting.specs.Marks.{matches, mark, next_cut}
use Rattle.cutting.specs.Search.{Seek}
use Rattle.cutting.proofs.Marked.{mark_within}

-- at an offset of the search: the signature there, and no mark before it
pub record Searching (s : Settings) (log : List ℕ) (first last : ℕ) (spot : Spot) : Type 0 where
  pub begun : first ≤ spot.at
  pub ahead : spot.at ≤ last
  pub here : spot.signature ≡ signature_of (window log (spot.at - 48))
  pub clear : Unmarked (mark s log) first spot.at

-- the signature one byte on
pub rolled_on : (log : List ℕ) → Bytes log → (at : ℕ) → 48 ≤ at → at < length log → (here r : ℕ) → here ≡ signature_of (window log (at - 48))
    → r ≡ rolled degree low_part 48 here (get_or log (at - 48) 0) (get_or log at 0) → r ≡ signature_of (window log (at + 1 - 48))
rolled_on log bytes at low inside here r is-here e =
    let spot : at ≡ at - 48 + 48 = omega arith in
    let onward : at - 48 + 1 ≡ at + 1 - 48 = omega arith in
    roll_slides log bytes (at - 48) (omega arith) here r is-here
    (e ∙ ap (λ i. rolled degree low_part 48 here (get_or log (at - 48) 0) (get_or log i 0)) spot)
    ∙ ap (λ q. signature_of (window log q)) onward

module _ (s : Settings) (log : List ℕ) {first last : ℕ} (low : 48 ≤ first) (fits : last ≤ length log) {spot : Spot} (now-at : Searching s log first last spot) where
  -- inside the search an offset is a mark when the signature at hand matches
  told : {r : Bool} → matches s spot.signature ≡ r → mark s log spot.at ≡ r
  told e = mark_within s log spot.at (omega (arith, now-at.begun)) (omega (arith, now-at.ahead)) ∙ ap (matches s) (sym now-at.here) ∙ e

  pub turn : Bytes log → matches s spot.signature ≡ false → (spot.at ≡ last → ⊥) → (r : ℕ)
      → r ≡ rolled degree low_part 48 spot.signature (get_or log (spot.at - 48) 0) (get_or log spot.at 0)
      → Searching s log first last (record { at = spot.at + 1; signature = r })
  turn bytes miss short r e =
      let b = now-at.begun in
      let a = now-at.ahead in
      record {
        begun = omega arith;
        ahead = omega arith;
        here = rolled_on log bytes spot.at (omega arith) (omega arith) spot.signature r now-at.here e;
        clear = λ q lo hi. by_lt q spot.at (now-at.clear q lo) (λ k. let same : q ≡ spot.at = omega arith in ap (mark s log) same ∙ told miss);
      }

  -- it stops on a match, or else at its end
  pub on_mark : matches s spot.signature ≡ true → Seek s log first last spot true
  on_mark match = record { begun = now-at.begun; inside = now-at.ahead; clear = now-at.clear; told = told match; here = now-at.here; ended = λ z. absurd (clash z) }

  pub at_end : matches s spot.signature ≡ false → spot.at ≡ last → Seek s log first last spot false
  at_end miss over = record { begun = now-at.begun; inside = now-at.ahead; clear = now-at.clear; told = told miss; here = now-at.here; ended = λ z. over }

-- a search that found no mark passed none, its last offset included
pub none_found : (s : Settings) (log : List ℕ) {first last : ℕ} {r : Spot} → Seek s log first last r false → Unmarked (mark s log) first (suc last)
none_found s log {r = r} k q x y = by_lt q r.at (k.clear q x) (λ h. ap (mark s log) (omega (arith, k.ended refl)) ∙ k.told)

-- it stops at the first mark, or at its end where there is none
pub first_sought : (s : Settings) (log : List ℕ) {first last : ℕ} (r : Spot) → Seek s log first last r true
    → r.at ≡ first_mark (mark s log) (suc last - first) first last
first_sought s log {first} {last} r k =
    sym (first_at (mark s log) last (suc last - first) first r.at k.begun (omega (arith, k.begun, k.inside)) k.told k.clear)

pub none_sought : (s : Settings) (log : List ℕ) {first last : ℕ} (r : Spot) → Seek s log first last r false
    → r.at ≡ first_mark (mark s log) (suc last - first) first last
none_sought s log {first} {last} r k =
    k.ended refl ∙ sym (first-none (mark s log) last (suc last - first) first (λ q x y. none_found s log k q x (omega arith)))

-- where there is no offset to look at, the search gives the last
pub too_near : (mark : ℕ → Bool) (first last : ℕ) → last < first → last ≡ first_mark mark (suc last - first) first last
too_near mark first last h = sym (first-none mark last (suc last - first) first (λ q a b. absurd (omega arith)))

-- the next cut, from the last offset that is looked at
pub searched : (s : Settings) (log : List ℕ) (c last r : ℕ) → last ≡ min (c + s.maximum) (length log)
    → r ≡ first_mark (mark s log) (suc last - (c + s.minimum)) (c + s.minimum) last → r ≡ next_cut s log c
unfolding next
searched s log c last r is_last e =
    e ∙ ap (λ l. first_mark (mark s log) (suc l - (c + s.minimum)) (c + s.minimum) l) is_last
