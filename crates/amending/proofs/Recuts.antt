-- The recut, cut by cut: what is known after each, and what that says where it stops.
use Prim.Native.Nat.{ℕ, ◌+◌, ◌-◌, ◌≤◌, ◌<◌}
use mathlib.Core.Path.{◌≡◌, sym, ap, ◌∙◌}
use mathlib.Core.Bool.{Bool, true, false}
use mathlib.Core.List.{List, [], ◌∷◌, map}
use native.Mathlib.Omega.{arith}
use lib.ListN.{length, get_or, drop, length-drop}
use lib.Seq.{drop-length, drop-drop}
use Rattle.laws.specs.Last.{last_or}
use Rattle.lists.specs.declared.Made.{Made}
use Rattle.lists.specs.Puts.{Puts}
use Rattle.lists.proofs.Putting.{Underway, rest-is, more, ended}
use Rattle.rule.specs.Rule.{chain}
use Rattle.rule.proofs.Chain.{Rising, opened, at-end}
use Rattle.amending.specs.declared.edits.Edit.{Edit}
use Rattle.amending.specs.Parts.{until, from, was_at, meets, moved, back_from}
use Rattle.amending.specs.Inner.{Ascends, Recutted}
use Rattle.amending.proofs.Split.{nowhere, here, later, split, until_is, from_is}
use Rattle.amending.proofs.Told.{placed}
use Rattle.amending.proofs.Looking.{Looked, ascends_after, first_least}

-- the new cuts after c
abbrev after : (ℕ → ℕ) → ℕ → ℕ → List ℕ
after next n c = chain next n (n - c) c

-- the cuts up to the last one made are put, and those that are left up to the meeting are left; what was passed of the old cuts is met no more
pub record Recuts (next : ℕ → ℕ) (n : ℕ) (edit : Edit) (past : List ℕ) (before : Made) (list₀ : List ℕ) (now : Made) (list : List ℕ) (passed : ℕ) : Type 0 where
  pub puts : Underway (until (meets edit past) (after next n before.cut)) (until (meets edit past) (after next n now.cut)) before now list₀ list
  pub onward : from (meets edit past) (after next n before.cut) ≡ from (meets edit past) (after next n now.cut)
  pub within : passed ≤ length past
  pub behind : (t : ℕ) → now.cut < t → from (was_at edit t) past ≡ from (was_at edit t) (drop passed past)

module _ {next : ℕ → ℕ} {n : ℕ} {edit : Edit} {past : List ℕ} {before : Made} {list₀ : List ℕ} {now : Made} {list : List ℕ} {passed : ℕ}
    (r : Recuts next n edit past before list₀ now list passed) where
  -- no cut is left up to the meeting
  settled : (p : ℕ) → p ≤ length past → until (meets edit past) (after next n now.cut) ≡ []
      → back_from edit past (from (meets edit past) (after next n now.cut)) ≡ map (moved edit) (drop p past)
      → ((i : ℕ) → i < length (drop p past) → edit.removed ≤ get_or (drop p past) i 0 + edit.added)
      → Recutted edit past (after next n before.cut) before now list₀ list p
  settled p inside nothing back movable =
      record {
        puts = ended (rest-is [] nothing r.puts);
        within = inside;
        onward = ap (back_from edit past) r.onward ∙ back;
        movable = movable;
      }

  -- the log ends with no meeting
  pub recut_ended : n ≤ now.cut → Recutted edit past (after next n before.cut) before now list₀ list (length past)
  unfolding back_from
  recut_ended over =
      let empty : after next n now.cut ≡ [] = at-end next n (n - now.cut) now.cut over in
      settled (length past) (omega arith) (ap (until (meets edit past)) empty ∙ until_is (meets edit past) nowhere)
      (ap (back_from edit past) (ap (from (meets edit past)) empty ∙ from_is (meets edit past) nowhere) ∙ ap (map (moved edit)) (sym (drop-length past)))
      (λ i h. absurd (omega (arith, length-drop (length past) past)))

  -- the next new cut t, and what a look at it told
  module _ (ok : Rising next n) (below : now.cut < n) (t : ℕ) (is : t ≡ next now.cut) {further : ℕ} {met : Bool} (look : Looked edit t (drop passed past) further met) where
    pub up : now.cut < t
    up = omega (arith, is, ok.rises now.cut below)

    ahead : after next n now.cut ≡ t ∷ after next n t
    ahead = opened next n ok now.cut below ∙ ap (λ x. x ∷ after next n x) (sym is)

    told : met ≡ meets edit past t
    told = look.told ∙ (unfold meets in rw (r.behind t up))

    pub inside : passed + further ≤ length past
    inside = omega (arith, look.within, length-drop passed past, r.within)

    pub recut_met : Ascends past → met ≡ true → Recutted edit past (after next n before.cut) before now list₀ list (passed + further)
    unfolding back_from
    recut_met rises yes-met =
        let hit : meets edit past t ≡ true = sym told ∙ yes-met in
        let (x, rest, there) = placed edit past t hit in
        let left : drop (passed + further) past ≡ from (was_at edit t) past = sym (drop-drop further passed past) ∙ look.onward yes-met ∙ sym (r.behind t up) in
        let first : get_or (drop (passed + further) past) 0 0 ≡ x = ap (λ l. get_or l 0 0) (left ∙ there.onward) in
        settled (passed + further) inside (ap (until (meets edit past)) ahead ∙ until_is (meets edit past) (here hit))
        (ap (back_from edit past) (ap (from (meets edit past)) ahead ∙ from_is (meets edit past) (here hit)) ∙ ap (map (moved edit)) (sym left))
        (λ i h. omega (arith, first, there.place, first_least (drop (passed + further) past) (ascends_after (passed + further) past rises) i h))

    pub recut_more : met ≡ false → {made : Made} {list' : List ℕ} → Puts (t ∷ []) now made list list' → Recuts next n edit past before list₀ made list' (passed + further)
    unfolding last_or
    recut_more no_met {made} put =
        let step = later (sym told ∙ no_met) (split (meets edit past) (after next n t)) in
        let on : until (meets edit past) (after next n now.cut) ≡ t ∷ until (meets edit past) (after next n t) = ap (until (meets edit past)) ahead ∙ until_is (meets edit past) step in
        let last : made.cut ≡ t = put.last in
        record {
          puts = more (t ∷ []) (rest-is (t ∷ until (meets edit past) (after next n made.cut)) (rw last on) r.puts) put;
          onward = rw last (r.onward ∙ ap (from (meets edit past)) ahead ∙ from_is (meets edit past) step);
          within = inside;
          behind = λ t' h. r.behind t' (omega (arith, up, last)) ∙ look.behind t' (omega (arith, last)) ∙ ap (from (was_at edit t')) (drop-drop further passed past);
        }
