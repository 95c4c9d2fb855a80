-- Judging a whole bay, and the bays one by one.
use Rattle.std.specs.Prelude.{Ok, Err}
use mathlib.Core.Path.{◌≡◌, sym, ap, ◌∙◌}
use mathlib.Core.Bool.{true, false, ◌&&◌}
use mathlib.Core.List.{List}
use Prim.Native.Nat.{ℕ, suc, ◌+◌, ◌-◌, ◌≤◌, ◌<◌}
use native.Mathlib.Omega.{arith}
use native.Mathlib.Numerals.{add-one}
use lib.ListN.{length, get_or}
use borrow.Author.Tests.{le-leb, lt-leb, lt-ltb, le-ltb, ltb-true}
use Rattle.terms.specs.declared.Settings.{Settings}
use Rattle.terms.specs.declared.Refusal.{Refusal}
use Rattle.terms.specs.Rows.{Verdict}
use Rattle.terms.specs.Rows.{verdict, ruled}
use Rattle.terms.proofs.Verdicts.{joined}
use Rattle.board_bays.specs.Judging.{bay_rows, bays_rows}
use Rattle.board_bays.specs.Segments.{segment_start, segment_end}
use Rattle.board_bays.specs.Bays.{bay_of, is_done, offset_count, record_in, is_sound, rises_within, marker_fits}

module _ (s : Settings) (n size i : ℕ) (bay : List ℕ) where
  pub too_many : length bay - 2 < get_or bay 0 0 - 1 → false ≡ is_sound s n size i bay
  unfolding is_sound offset_count
  too_many h = rw (lt-leb _ _ h)

  -- the segment's ends and the record as the code has them
  pub sound_is : get_or bay 0 0 - 1 ≤ length bay - 2 → (a : ℕ) → a ≡ segment_start size i → (e : ℕ) → e ≡ segment_end n size i
      → (marker : ℕ) → marker ≡ (record_in bay).marker → (offsets : List ℕ) → offsets ≡ (record_in bay).offsets
      → is_sound s n size i bay ≡ rises_within a e offsets && marker_fits s.minimum s.maximum i (record { marker = marker; offsets = offsets })
  unfolding is_sound offset_count
  sound_is few a starts e ends marker is-marker offsets are = rw (le-leb _ _ few, starts, ends, is-marker, are)

-- entry 0
pub some_entry : (bay : List ℕ) → is_done bay ≡ true → 1 ≤ get_or bay 0 0
unfolding is_done
some_entry bay t = ltb-true 0 (get_or bay 0 0) t

pub is_done_lem : (bay : List ℕ) → (get_or bay 0 0 ≡ 0 → ⊥) → is_done bay ≡ true
unfolding is_done
is_done_lem bay h = lt-ltb 0 (get_or bay 0 0) (omega (arith, h))

pub not_done : (bay : List ℕ) → get_or bay 0 0 ≡ 0 → is_done bay ≡ false
unfolding is_done
not_done bay h = le-ltb 0 (get_or bay 0 0) (omega arith)

-- the bays from bay i on, of so many, as the code judges them
module _ (s : Settings) (n size width : ℕ) (board : List ℕ) (count i : ℕ) where
  module _ (h : i < count) (bay : List ℕ) (is-bay : bay ≡ bay_of width i board) (v : Verdict) (told : v ≡ verdict (bay_rows s n size i bay)) where
    opened : verdict (bays_rows s n size width board (count - i) i) ≡ ruled v Err (verdict (bays_rows s n size width board (count - (i + 1)) (i + 1)))
    unfolding bays_rows
    opened =
        let left : count - i ≡ suc (count - (i + 1)) = omega arith in
        rw (left, told, is-bay, add-one) (joined (bay_rows s n size i (bay_of width i board)) _)

    pub judged_on : v ≡ Ok tt → verdict (bays_rows s n size width board (count - i) i) ≡ verdict (bays_rows s n size width board (count - (i + 1)) (i + 1))
    judged_on e = opened ∙ rw e

    pub bay_wrong : (why : Refusal) → v ≡ Err why → verdict (bays_rows s n size width board (count - i) i) ≡ Err why
    bay_wrong why e = opened ∙ rw e

  pub judged_all : count ≤ i → verdict (bays_rows s n size width board (count - i) i) ≡ Ok tt
  unfolding bays_rows verdict
  judged_all h = let none : count - i ≡ 0 = omega arith in rw none

pub judged_whole : (s : Settings) (n size width : ℕ) (board : List ℕ) {count k : ℕ} {v : Verdict} → count ≡ k
    → verdict (bays_rows s n size width board count 0) ≡ v → v ≡ verdict (bays_rows s n size width board k 0)
judged_whole s n size width board e h = sym h ∙ ap (λ (j : ℕ). verdict (bays_rows s n size width board j 0)) e
