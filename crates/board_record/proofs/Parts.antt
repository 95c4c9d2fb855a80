-- A segment's stretch of the log has the log's own marks there, so that what is recorded from it is the segment's record.
use Prim.Native.Nat.{ℕ, zero, suc, ◌+◌, ◌-◌, ◌*◌, ◌^◌, ◌≤◌, ◌<◌}
use mathlib.Core.Path.{◌≡◌, refl, sym, ap, ◌∙◌, subst}
use mathlib.Core.List.{List}
use native.Mathlib.Nat.{mul-le-mul_right, one-mul}
use native.Mathlib.Omega.{arith}
use lib.ListN.{length, take, drop, length-take, length-drop}
use Rattle.laws.proofs.Cases.{by_lt}
use Rattle.laws.proofs.Slices.{part_of_part}
use Rattle.terms.specs.declared.Settings.{Settings}
use Rattle.terms.proofs.Ranges.{Ranges}
use Rattle.rule.specs.Rule.{cuts_up_to}
use Rattle.signature.specs.Signatures.{window}
use Rattle.cutting.specs.Marks.{mark}
use Rattle.cutting.proofs.Marked.{mark_low, marks_agree}
use Rattle.lists.specs.declared.Made.{Made}
use Rattle.board_record.specs.declared.Recorded.{Recorded}
use Rattle.lists.specs.Puts.{Puts}
use Rattle.board_bays.specs.Segments.{segment_start, segment_end, There}
use Rattle.board_bays.specs.Bays.{Record}
use Rattle.board_record.specs.Records.{segment_record, slow_record, marks_in, segment_of}
use Rattle.board_record.specs.Stretches.{mark_from, slow_in, Records}
use Rattle.board_bays.proofs.Ranges.{begins_below}
use Rattle.rule.proofs.Leaps.{cuts_alike}
use Rattle.board_record.proofs.Alike.{slow_alike}

module _ (s : Settings) (log : List ℕ) (base last : ℕ) (begins : base ≤ last) (fits : last ≤ length log) where
  pub stretch_long : length (take (last - base) (drop base log)) ≡ last - base
  stretch_long = rw (length-take, length-drop) (omega arith)

  stretch_mark : (q : ℕ) → base + 48 ≤ q → q ≤ last → mark_from s (take (last - base) (drop base log)) base q ≡ mark s log q
  unfolding mark_from
  stretch_mark q low high =
      let long = stretch_long in
      let spot : base + (q - base - 48) ≡ q - 48 = omega arith in
      marks_agree s (take (last - base) (drop base log)) log (q - base) q (omega arith) (omega arith) (omega arith) (omega arith)
      (part_of_part log base (last - base) (q - base - 48) 48 (omega arith) (omega arith) ∙ ap (window log) spot)

  first-mark : base ≡ 0 → (q : ℕ) → 0 < q → q ≤ last → mark_from s (take (last - base) (drop base log)) base q ≡ mark s log q
  unfolding mark_from
  first-mark none q some high =
      by_lt q 48
      (λ h. mark_low s _ (q - base) (omega arith) ∙ sym (mark_low s log q h))
      (λ h. unfold mark_from in stretch_mark q (omega arith) high)

-- segment i, whose end the code has at hand
module _ (s : Settings) (log : List ℕ) (size i : ℕ) (there : There (length log) size i) (ok : Ranges s) (last : ℕ) (ends : last ≡ segment_end (length log) size i) where
  pub inside : last ≤ length log
  unfolding segment_end
  inside = omega arith

  pub starts_before : i * size < last
  unfolding segment_end
  starts_before = omega (arith, begins_below (length log) size (omega (arith, there.large)) i there.there, there.large)

  -- segment 0
  module _ (first : i ≡ 0) where
    first_record : segment_of s log size i
        ≡ record { marker = 0; offsets = cuts_up_to (mark_from s (take (last - 0) (drop 0 log)) 0) s.minimum s.maximum (0 + length (take (last - 0) (drop 0 log))) 0 }
    unfolding segment_record
    first_record =
        let long = stretch_long s log 0 last (omega arith) inside in
        let e : 0 + length (take (last - 0) (drop 0 log)) ≡ last = omega arith in
        let end0 : segment_end (length log) size 0 ≡ last = ap (segment_end (length log) size) (sym first) ∙ sym ends in
        ap (λ (j : ℕ). segment_record (mark s log) s.minimum s.maximum (length log) size j) first
        ∙ ap {B = Record} (λ (l : List ℕ). record { marker = 0; offsets = l })
        (ap (λ (x : ℕ). cuts_up_to (mark s log) s.minimum s.maximum x 0) end0
        ∙ sym (cuts_alike (mark_from s (take (last - 0) (drop 0 log)) 0) (mark s log) s.minimum s.maximum (omega (arith, ok.window-fits)) ok.ordered last 0
        (first-mark s log 0 last (omega arith) inside refl))
        ∙ ap (λ (x : ℕ). cuts_up_to (mark_from s (take (last - 0) (drop 0 log)) 0) s.minimum s.maximum x 0) (sym e))

    pub from_zero : {before after : Made} {list list' : List ℕ} → before.count ≡ 0 → before.cut ≡ 0
        → Puts (cuts_up_to (mark_from s (take (last - 0) (drop 0 log)) 0) s.minimum s.maximum (0 + length (take (last - 0) (drop 0 log))) before.cut) before after list list'
        → Records (segment_of s log size i) 0 (record { count = after.count; marker = 0 }) list list'
    from_zero {before} {after} {list} {list'} none start p =
        subst (λ r. Records r 0 (record { count = after.count; marker = 0 }) list list') (sym first_record)
        (record { counted = rw (none, start) at p.counted; marked = refl; kept = rw (none, start) at p.kept })

  -- any other
  module _ (later : i ≡ 0 → ⊥) where
    pub lead : 64 ≤ i * size
    lead = omega (arith, mul-le-mul_right size (pos later), there.large, one-mul size)
      where
        pos : (i ≡ 0 → ⊥) → 1 ≤ i
        pos h = omega (arith, h)

    pub stretch_fine : (48 ≤ length (take (last - (i * size - 47)) (drop (i * size - 47) log)))
        × (i * size - 47 + length (take (last - (i * size - 47)) (drop (i * size - 47) log)) ≤ 2 ^ 40)
    stretch_fine =
        let low = inside in
        let b = starts_before in
        let l = lead in
        let n = there.short in
        let long = stretch_long s log (i * size - 47) last (omega arith) inside in
        omega arith

    opened : (j : ℕ) → (j ≡ 0 → ⊥) → segment_record (mark s log) s.minimum s.maximum (length log) size j
        ≡ slow_record (mark s log) s.minimum s.maximum (segment_end (length log) size j) (marks_in (mark s log) (segment_start size j) (segment_end (length log) size j))
    unfolding segment_record
    opened zero h = absurd (h refl)
    opened (suc j) h = refl

    at_ends : slow_record (mark s log) s.minimum s.maximum (segment_end (length log) size i) (marks_in (mark s log) (segment_start size i) (segment_end (length log) size i))
        ≡ slow_record (mark s log) s.minimum s.maximum last (marks_in (mark s log) (i * size) last)
    unfolding segment_start
    at_ends = ap (λ (x : ℕ). slow_record (mark s log) s.minimum s.maximum x (marks_in (mark s log) (i * size) x)) (sym ends)

    slow_record_lem : segment_of s log size i ≡ slow_in s (take (last - (i * size - 47)) (drop (i * size - 47) log)) (i * size - 47)
    unfolding slow_in
    slow_record_lem =
        let base : ℕ = i * size - 47 in
        let b = starts_before in
        let l = lead in
        let long = stretch_long s log base last (omega arith) inside in
        let e : base + length (take (last - base) (drop base log)) ≡ last = omega arith in
        let a : base + 47 ≡ i * size = omega arith in
        opened i later ∙ at_ends
        ∙ sym (rw (e, a)
        (slow_alike (mark_from s (take (last - base) (drop base log)) base) (mark s log) s.minimum s.maximum (omega (arith, ok.window-fits)) ok.ordered last (i * size) (omega arith)
        (λ q x y. stretch_mark s log base last (omega arith) inside q (omega arith) y)))

    pub from_stretch : {r : Recorded} {list list' : List ℕ} → Records (slow_in s (take (last - (i * size - 47)) (drop (i * size - 47) log)) (i * size - 47)) 0 r list list'
        → Records (segment_of s log size i) 0 r list list'
    from_stretch {r} {list} {list'} w = subst (λ x. Records x 0 r list list') (sym slow_record_lem) w
