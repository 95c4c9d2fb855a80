-- Number 17 is never answered: the room that is tested first holds every cut. (Merging's is in AnyBoard.)
use Rattle.std.specs.Prelude.{Ok}
use Prim.Native.Nat.{ℕ, ◌+◌, ◌-◌, ◌/◌, ◌≤◌, ◌<◌}
use mathlib.Core.Path.{◌≡◌, refl, sym, subst, ◌∙◌}
use mathlib.Core.Bool.{Bool, true, false, not}
use mathlib.Core.List.{List, [], ◌∷◌, ◌++◌}
use native.Mathlib.Omega.{arith}
use lib.Dec.{lit<, ltb}
use lib.ListN.{length}
use borrow.Author.Tests.{ltb-true, ltb-false, not-false}
use Rattle.terms.specs.declared.Settings.{Settings}
use Rattle.terms.specs.declared.Refusal.TheVariants.{SettingsOutOfRange, LogTooLong, RoomTooShort, ListNotWellFormed, EditOutOfRange, ListFull}
use Rattle.terms.specs.Settings.{in_range}
use Rattle.terms.specs.Answers.{answer_number, longest, room_for}
use Rattle.terms.specs.Rows.{Row, row, verdict, first_row, lacks}
use Rattle.terms.proofs.Ranges.{ranges}
use Rattle.terms.proofs.Verdicts.{clear, both_clear, last_holds}
use Rattle.laws.specs.Last.{last_or}
use Rattle.lists.specs.WellFormed.{well_formed, length_of}
use Rattle.lists.specs.Written.{guard}
use Rattle.lists.proofs.Reaching.{reaches}
use Rattle.lists.proofs.Roomy.{reaches_room}
use Rattle.cutting.specs.Marks.{mark, cut_list}
use Rattle.cutting.specs.Calls.{cut_log_rows, cut_log_answer}
use Rattle.cutting.proofs.Reaching.{true_list}
use Rattle.pass_carry.specs.declared.Carry.{Carry}
use Rattle.pass_carry.specs.Carries.{cuts_in}
use Rattle.pass_carry.specs.Outcomes.{carry_rows}
use Rattle.pass_carry.proofs.Room.{enough_room}
use Rattle.pass.specs.Calls.{block_rows, block_outcome}
use Rattle.amending.specs.declared.edits.Edit.{Edit}
use Rattle.amending.specs.Parts.{amended_list}
use Rattle.amending.specs.Answers.{amendment_number, new_cuts_of, edit_fits, amend_rows, amend_answer}
use Rattle.promises.proofs.WholeLog.{whole_log_rows}
use Rattle.promises.proofs.SinglePass.{block_rows_lem}
use Rattle.promises.proofs.Amending.{amend_rows_lem, amended_again}

-- a table whose last row is the guard: it is not answered where the rows before it leave room for the cuts
unguarded : (rows : List Row) (cuts : List ℕ) (room number : ℕ) → lacks ListFull rows ≡ true → number ≡ first_row (rows ++ (guard cuts room ∷ []))
    → (verdict rows ≡ Ok tt → length cuts ≤ room) → number ≡ 17 → ⊥
unguarded rows cuts room number plain is fits full =
    let last = last_holds ListFull rows (ltb room (length cuts)) plain (lit< tt) (sym is ∙ full) in
    omega (arith, ltb-true room (length cuts) last.1, fits last.0)

-- a well-formed list has the room that cutting its log asks for
roomy : (lo hi : ℕ) → 0 < lo → (list : List ℕ) → well_formed lo hi list ≡ true → length list ≤ room_for lo (length_of list)
unfolding well_formed length_of
roomy lo hi positive list formed =
    let whole : last_or 0 list - 0 ≡ last_or 0 list = omega arith in
    subst (λ n. length list ≤ n / lo + 1) whole (reaches_room positive (reaches lo hi 0 list formed).0)

module _ (settings : Settings) (log : List ℕ) (room : ℕ) where
  abbrev before : List Row
  before = row SettingsOutOfRange (not (in_range settings)) ∷ row LogTooLong (ltb longest (length log)) ∷ row RoomTooShort (ltb room (room_for settings.minimum (length log))) ∷ []

  whole_log_fits : verdict before ≡ Ok tt → length (cut_list settings log) ≤ room
  whole_log_fits v =
      let a = clear SettingsOutOfRange (not (in_range settings)) _ v in
      let b = clear LogTooLong (ltb longest (length log)) _ a.1 in
      let c = clear RoomTooShort (ltb room (room_for settings.minimum (length log))) [] b.1 in
      let ok = not-false (in_range settings) a.0 in
      let (formed, ends) = true_list settings log ok (ltb-false longest (length log) b.0) in
      let few = roomy settings.minimum settings.maximum (ranges settings ok).positive (cut_list settings log) formed in
      omega (arith, rw ends at few, ltb-false room (room_for settings.minimum (length log)) c.0)

  pub whole_log_never_full : answer_number (cut_log_answer settings log room) ≡ 17 → ⊥
  unfolding cut_log_rows lacks
  whole_log_never_full = unguarded before (cut_list settings log) room _ refl (whole_log_rows settings log room) whole_log_fits

module _ (c : Carry) (block : List ℕ) (room : ℕ) where
  abbrev block_before : List Row
  block_before = carry_rows c ++ (row LogTooLong (ltb longest (c.taken + length block)) ∷ row RoomTooShort (ltb room (room_for c.settings.minimum (length block))) ∷ [])

  block_fits : verdict block_before ≡ Ok tt → length (cuts_in c block) ≤ room
  unfolding carry_rows
  block_fits v =
      let (judged, later) = both_clear (carry_rows c) _ v in
      let ok = not-false (in_range c.settings) (clear SettingsOutOfRange (not (in_range c.settings)) _ judged).0 in
      let b = clear LogTooLong (ltb longest (c.taken + length block)) _ later in
      let r = clear RoomTooShort (ltb room (room_for c.settings.minimum (length block))) [] b.1 in
      omega (arith, enough_room block c (ranges c.settings ok).positive, ltb-false room (room_for c.settings.minimum (length block)) r.0)

  pub block_never_full : answer_number (block_outcome c block room).answer ≡ 17 → ⊥
  unfolding block_rows carry_rows lacks
  block_never_full = unguarded block_before (cuts_in c block) room _ refl (block_rows_lem c block room) block_fits

module _ (settings : Settings) (old : List ℕ) (edit : Edit) (log : List ℕ) (room : ℕ) where
  abbrev amend_before : List Row
  amend_before =
      row SettingsOutOfRange (not (in_range settings))
      ∷ row ListNotWellFormed (not (well_formed settings.minimum settings.maximum old))
      ∷ row EditOutOfRange (not (edit_fits (length_of old) edit (length log)))
      ∷ row LogTooLong (ltb longest (length log))
      ∷ row RoomTooShort (ltb room (room_for settings.minimum (length log)))
      ∷ []

  amend_fits : verdict amend_before ≡ Ok tt → length (amended_list (new_cuts_of settings log) old edit) ≤ room
  amend_fits v =
      let a = clear SettingsOutOfRange (not (in_range settings)) _ v in
      let b = clear ListNotWellFormed (not (well_formed settings.minimum settings.maximum old)) _ a.1 in
      let d = clear EditOutOfRange (not (edit_fits (length_of old) edit (length log))) _ b.1 in
      let e = clear LogTooLong (ltb longest (length log)) _ d.1 in
      let r = clear RoomTooShort (ltb room (room_for settings.minimum (length log))) [] e.1 in
      let ok = not-false (in_range settings) a.0 in
      let (formed, ends) = amended_again settings old edit log (not-false _ b.0) ok (not-false _ d.0) (ltb-false longest (length log) e.0) in
      let few = roomy settings.minimum settings.maximum (ranges settings ok).positive (amended_list (new_cuts_of settings log) old edit) formed in
      omega (arith, rw ends at few, ltb-false room (room_for settings.minimum (length log)) r.0)

  pub amend_never_full : amendment_number (amend_answer settings old edit log room) ≡ 17 → ⊥
  unfolding amend_rows lacks
  amend_never_full = unguarded amend_before (amended_list (new_cuts_of settings log) old edit) room _ refl (amend_rows_lem settings old edit log room) amend_fits
