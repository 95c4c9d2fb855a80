-- New bytes outside the recut stretch cannot alter the parts: two new logs of one length that agree on it have the same recut and the same
-- back.
use Prim.Native.Nat.{ℕ, ◌+◌, ◌-◌, ◌≤◌, ◌<◌}
use mathlib.Core.Path.{◌≡◌, refl, sym, ap, ◌∙◌}
use mathlib.Core.Bool.{Bool, true}
use mathlib.Core.List.{List, [], ◌∷◌}
use native.Mathlib.Omega.{arith}
use lib.ListN.{length, get_or}
use Rattle.laws.proofs.Cases.{by_lt}
use Rattle.terms.specs.declared.Settings.{Settings}
use Rattle.terms.specs.Settings.{in_range}
use Rattle.terms.proofs.Ranges.{ranges}
use Rattle.lists.specs.WellFormed.{length_of}
use Rattle.rule.specs.Rule.{next, chain, cuts_from}
use Rattle.rule.proofs.Chain.{Run, stay, onward, Rising, opened, at-end, whole}
use Rattle.rule.proofs.Next.{next_step, next_again, rising}
use Rattle.cutting.specs.Marks.{mark}
use Rattle.cutting.proofs.Marked.{mark_past, marks_by_bytes}
use Rattle.amending.specs.declared.edits.Edit.{Edit}
use Rattle.amending.specs.Parts.{past_front, restart, meets, back_from, first_or, recut, back, stretch_end}
use Rattle.amending.specs.Answers.{new_cuts_of, edit_fits}
use Rattle.amending.proofs.Split.{Split, nowhere, here, later, split, until_is, from_is}
use Rattle.amending.proofs.Front.{restart_low}
use Rattle.amending.proofs.Fitting.{edit_told}

module _ (next next' : ℕ → ℕ) (n : ℕ) (ok : Rising next n) (ok' : Rising next' n) (edit : Edit) (past : List ℕ) where
  along : {c : ℕ} {news p r : List ℕ} → Run next n c news n → Split (meets edit past) news p r
      → ((x : ℕ) → c ≤ x → x < n → next x ≤ first_or n r → next' x ≡ next x)
      → (c ≤ first_or n r) × (r' : List ℕ) × Split (meets edit past) (chain next' n (n - c) c) p r' × (back_from edit past r' ≡ back_from edit past r)
  unfolding first_or back_from
  along stay nowhere agree = (omega arith, [], rw (at-end next' n (n - n) n (omega arith)) nowhere, refl)
  along (onward {c = c} h run) (here e) agree =
      let up : c < next c = ok.rises c h in
      let same : next' c ≡ next c = agree c (omega arith) h (omega arith) in
      (omega arith, next c ∷ chain next' n (n - next c) (next c), rw (opened next' n ok' c h, same) (here e), refl)
  along (onward {c = c} h run) (later e parts) agree =
      let up : c < next c = ok.rises c h in
      let (low, r', parts', same_back) = along run parts (λ x begun b near. agree x (omega arith) b near) in
      let same : next' c ≡ next c = agree c (omega arith) h low in
      (omega arith, r', rw (opened next' n ok' c h, same) (later e parts'), same_back)

module _ (mark mark' : ℕ → Bool) (lo hi n : ℕ) (positive : 0 < lo) (order : lo ≤ hi) (old : List ℕ) (edit : Edit) (inside : restart edit.at old ≤ n)
    (same : (q : ℕ) → restart edit.at old + lo ≤ q → q ≤ stretch_end (cuts_from mark lo hi n) old edit n → mark q ≡ mark' q) where
  pub parts_same : (recut (cuts_from mark lo hi n) old edit ≡ recut (cuts_from mark' lo hi n) old edit) × (back (cuts_from mark lo hi n) old edit ≡ back (cuts_from mark' lo hi n) old edit)
  unfolding cuts_from recut back stretch_end
  parts_same =
      let ok = rising mark lo hi n positive order in
      let (low, r', parts, same_back) =
      along (next mark lo hi n) (next mark' lo hi n) n ok (rising mark' lo hi n positive order) edit (past_front edit.at old)
      (whole (next mark lo hi n) n ok (restart edit.at old) inside) (split _ _)
      (λ x begun b near. next_again mark mark' lo hi n n x (next_step mark lo hi n x order).inside (λ e. refl) (λ q far low. same q (omega arith) (omega arith))) in
      (sym (until_is _ parts), sym (ap (back_from edit (past_front edit.at old)) (from_is _ parts) ∙ same_back))

-- two new logs of one length that agree on the recut stretch have the same recut and back, from any old list
module _ (settings : Settings) (old : List ℕ) (edit : Edit) (log log' : List ℕ) (same : length log ≡ length log')
    (agree : (i : ℕ) → restart edit.at old ≤ i → i < stretch_end (new_cuts_of settings log) old edit (length log) → get_or log i 0 ≡ get_or log' i 0) where
  marks_between : (q : ℕ) → restart edit.at old + 48 ≤ q → q ≤ stretch_end (new_cuts_of settings log) old edit (length log) → mark settings log q ≡ mark settings log' q
  marks_between q low high =
      by_lt (length log) q
      (λ past. mark_past settings log q past ∙ sym (mark_past settings log' q (omega arith)))
      (λ inside. marks_by_bytes settings log log' q q (omega arith) inside (omega arith) (omega arith) (λ i k. agree (q - 48 + i) (omega arith) (omega arith)))

  pub stretch_parts : in_range settings ≡ true → edit_fits (length_of old) edit (length log) ≡ true
      → (recut (new_cuts_of settings log) old edit ≡ recut (new_cuts_of settings log') old edit) × (back (new_cuts_of settings log) old edit ≡ back (new_cuts_of settings log') old edit)
  unfolding recut back
  stretch_parts ok fits =
      let in-range = ranges settings ok in
      let told = edit_told (length_of old) edit (length log) fits in
      rw (← same) (parts_same (mark settings log) (mark settings log') settings.minimum settings.maximum (length log) in-range.positive in-range.ordered old edit
      (omega (arith, restart_low edit.at old)) (λ q low high. marks_between q (omega (arith, in-range.window-fits)) high))
