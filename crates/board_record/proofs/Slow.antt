-- Slow mode in a stretch, mark by mark.
use Prim.Native.Nat.{ℕ, suc, ◌+◌, ◌-◌, ◌≤◌}
use mathlib.Core.Path.{◌≡◌, refl, sym, ap, ◌∙◌}
use mathlib.Core.Bool.{true, false}
use mathlib.Core.List.{List, [], ◌∷◌}
use native.Mathlib.Omega.{arith}
use lib.ListN.{length}
use lib.Seq.{sets}
use Rattle.rule.specs.Rule.{Unmarked, cuts_up_to}
use Rattle.signature.specs.Signatures.{signature_of, window}
use Rattle.terms.specs.declared.Settings.{Settings}
use Rattle.cutting.specs.Marks.{mark}
use Rattle.lists.specs.declared.Made.{Made}
use Rattle.cutting.specs.declared.search.Spot.{Spot}
use Rattle.board_record.specs.declared.Recorded.{Recorded}
use Rattle.lists.specs.Puts.{Puts}
use Rattle.board_bays.specs.Bays.{Record}
use Rattle.board_record.specs.Records.{record_after, slow_record, marks_in, is_marker, prepend}
use Rattle.board_record.specs.Stretches.{mark_from, after_in, slow_in, Records}
use Rattle.cutting.specs.Search.{Seek}
use Rattle.board_record.proofs.Marking.{marks_next, marks_none}
use Rattle.board_record.proofs.After.{at_marker, no_marker}
use Rattle.lists.proofs.Putting.{Underway, rest-is, more, put_last, ended, all_made}
use Rattle.cutting.proofs.Searching.{none_found}

-- the marks of a stretch past an offset: none, or a first one
module _ (s : Settings) (stretch : List ℕ) (base at : ℕ) where
  no_more_marks : at ≤ length stretch → Unmarked (mark s stretch) (at + 1) (suc (length stretch))
      → marks_in (mark_from s stretch base) (base + at) (base + length stretch) ≡ []
  unfolding mark_from
  no_more_marks inside none =
      marks_none (mark_from s stretch base) (base + length stretch) (base + at) (omega arith) (λ q lo hi. none (q - base) (omega arith) (omega arith))

  then_marks : {next : Spot} → Seek s stretch (at + 1) (length stretch) next true
      → marks_in (mark_from s stretch base) (base + at) (base + length stretch) ≡ (base + next.at) ∷ marks_in (mark_from s stretch base) (base + next.at) (base + length stretch)
  unfolding mark_from
  then_marks {next} k =
      let same : base + next.at - base ≡ next.at = omega arith in
      marks_next (mark_from s stretch base) (base + length stretch) (base + at) (base + next.at) (omega (arith, k.begun)) (omega (arith, k.inside))
      (ap (mark s stretch) same ∙ k.told) (λ q lo hi. k.clear (q - base) (omega arith) (omega arith))

  -- what is recorded after a mark of a stretch
  after_none : at ≤ length stretch → Unmarked (mark s stretch) (at + 1) (suc (length stretch)) → after_in s stretch base at ≡ record { marker = 0; offsets = [] }
  unfolding after_in record_after
  after_none inside none = rw (no_more_marks inside none)

  module _ {next : Spot} (k : Seek s stretch (at + 1) (length stretch) next true) where
    after_marker : is_marker s.minimum s.maximum (base + at) (base + next.at) ≡ true
        → after_in s stretch base at
        ≡ record { marker = base + next.at; offsets = (base + next.at) ∷ cuts_up_to (mark_from s stretch base) s.minimum s.maximum (base + length stretch) (base + next.at) }
    unfolding after_in
    after_marker m = rw (then_marks k) (at_marker _ _ _ _ _ _ _ m)

    after_mark : is_marker s.minimum s.maximum (base + at) (base + next.at) ≡ false
        → after_in s stretch base at ≡ prepend (base + next.at) (after_in s stretch base next.at)
    unfolding after_in
    after_mark m = rw (then_marks k) (no_marker _ _ _ _ _ _ _ m)

-- the marks up to `spot`, the last one put, are recorded after the first
pub record Slowly (s : Settings) (stretch : List ℕ) (base : ℕ) (first : Spot) (before : Made) (list₀ : List ℕ) (spot : Spot) (now : Made) (list : List ℕ) : Type 0 where
  pub low : 48 ≤ spot.at
  pub inside : spot.at ≤ length stretch
  pub here : spot.signature ≡ signature_of (window stretch (spot.at - 48))
  pub last : now.cut ≡ base + spot.at
  pub marker : (after_in s stretch base first.at).marker ≡ (after_in s stretch base spot.at).marker
  pub way : Underway (after_in s stretch base first.at).offsets (after_in s stretch base spot.at).offsets before now list₀ list

module _ {s : Settings} {stretch : List ℕ} {base : ℕ} {first : Spot} {before : Made} {list₀ : List ℕ} {spot : Spot} {now : Made} {list : List ℕ}
    (w : Slowly s stretch base first before list₀ spot now list) where
  -- no more marks
  pub slow_none : Unmarked (mark s stretch) (spot.at + 1) (suc (length stretch))
      → Records (after_in s stretch base first.at) before.count (record { count = now.count; marker = 0 }) list₀ list
  slow_none none =
      let e = after_none s stretch base spot.at w.inside none in
      let p = ended (rest-is [] (ap (λ (r : Record). r.offsets) e) w.way) in
      record { counted = p.counted; marked = sym (w.marker ∙ ap (λ (r : Record). r.marker) e); kept = p.kept }

  module _ {next : Spot} (k : Seek s stretch (spot.at + 1) (length stretch) next true) {after : Made} {list' : List ℕ} (p : Puts ((base + next.at) ∷ []) now after list list') where
    pub slow_on : is_marker s.minimum s.maximum (base + spot.at) (base + next.at) ≡ false → Slowly s stretch base first before list₀ next after list'
    unfolding prepend
    slow_on m =
        let e = after_mark s stretch base spot.at k m in
        record {
          low = omega (arith, w.low, k.begun);
          inside = k.inside;
          here = k.here;
          last = put_last p;
          marker = w.marker ∙ ap (λ (r : Record). r.marker) e;
          way = more ((base + next.at) ∷ []) (rest-is ((base + next.at) ∷ (after_in s stretch base next.at).offsets) (ap (λ (r : Record). r.offsets) e) w.way) p;
        }

    pub slow_marker : is_marker s.minimum s.maximum (base + spot.at) (base + next.at) ≡ true → {list'' : List ℕ} {all : Made}
        → Puts (cuts_up_to (mark_from s stretch base) s.minimum s.maximum (base + length stretch) after.cut) after all list' list''
        → Records (after_in s stretch base first.at) before.count (record { count = all.count; marker = base + next.at }) list₀ list''
    slow_marker m q =
        let e = after_marker s stretch base spot.at k m in
        let rest = cuts_up_to (mark_from s stretch base) s.minimum s.maximum (base + length stretch) (base + next.at) in
        let u = more ((base + next.at) ∷ []) (rest-is ((base + next.at) ∷ rest) (ap (λ (r : Record). r.offsets) e) w.way) p in
        let done = all_made u (rw (put_last p)) q in
        record { counted = done.counted; marked = sym (w.marker ∙ ap (λ (r : Record). r.marker) e); kept = done.kept }

-- the first mark of a stretch past its lead-in
module _ (s : Settings) (stretch : List ℕ) (base : ℕ) (long : 48 ≤ length stretch) {first : Spot} (list : List ℕ) where
  pub first-none : Seek s stretch 48 (length stretch) first false → Records (slow_in s stretch base) 0 (record { count = 0; marker = 0 }) list list
  unfolding slow_in slow_record
  first-none k = rw (no_more_marks s stretch base 47 (omega arith) (none_found s stretch k)) (record { counted = refl; marked = refl; kept = refl })

  pub first_found : Seek s stretch 48 (length stretch) first true → {before after : Made} {list' list'' : List ℕ} → before.count ≡ 0
      → Puts ((base + first.at) ∷ []) before after list list' → {r : Recorded}
      → Records (after_in s stretch base first.at) after.count r list' list'' → Records (slow_in s stretch base) 0 r list list''
  unfolding slow_in slow_record after_in prepend
  first_found k {before} {after} none p {r} w =
      let one : after.count ≡ 1 = omega (arith, p.counted) in
      rw (then_marks s stretch base 47 k)
      (record {
        counted = w.counted ∙ omega arith;
        marked = w.marked;
        kept = rw one at w.kept ∙ ap (λ (l : List ℕ). sets l 1 (after_in s stretch base first.at).offsets) (rw none at p.kept);
      })
