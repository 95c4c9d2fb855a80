-- Reading a sheet: which rows decide, and what an answer says of the bytes.
use Rattle.std.specs.Prelude.{Ok, Err}
use mathlib.Core.Path.{◌≡◌, refl, sym, ap, ◌∙◌}
use mathlib.Core.Bool.{not}
use mathlib.Core.List.{List}
use Prim.Native.Nat.{ℕ, ◌≤◌, ◌<◌}
use borrow.Author.Tests.{eqb-true, eq-eqb, ne_eqb, ltb-false, le-ltb, lt-ltb, not-false}
use Rattle.laws.proofs.Cases.{impossible}
use Rattle.terms.specs.declared.Settings.{Settings}
use Rattle.terms.specs.declared.Label.{Label}
use Rattle.terms.specs.declared.Label.TheVariants.{Practice, Live}
use Rattle.terms.specs.declared.Refusal.{Refusal}
use Rattle.terms.specs.declared.Refusal.TheVariants.{OtherLabel, RoomTooShort}
use Rattle.terms.specs.Labels.{byte_of, label_of}
use Rattle.terms.specs.Rows.{verdict}
use Rattle.terms.proofs.Verdicts.{by_verdict, joined, clear, both_clear, top, past, skips, judged_wrong, judged_fine, succeeded}
use Rattle.sheet_format.specs.Forms.{cuts_form}
use Rattle.sheet_format.specs.Clean.{trailer_of, clean_rows, ReadsCleanly}
use Rattle.sheet.specs.Answers.{read}
use Rattle.sheet.specs.Read.{read_sheet_rows, read_sheet_answer}

module _ (bytes : List ℕ) (asked : Label) (room : ℕ) where
  -- the bytes decide, or else the label, or else the room
  pub bytes_refuse : {why : Refusal} → verdict (clean_rows cuts_form bytes) ≡ Err why → verdict (read_sheet_rows bytes asked room) ≡ Err why
  unfolding read_sheet_rows
  bytes_refuse e = joined (clean_rows cuts_form bytes) _ ∙ rw e

  module _ (c : ReadsCleanly cuts_form bytes) where
    pub label_refuses : ((trailer_of bytes).label ≡ byte_of asked → ⊥) → verdict (read_sheet_rows bytes asked room) ≡ Err OtherLabel
    unfolding read_sheet_rows
    label_refuses other = sym (judged_wrong (skips _ c top) (ap not (ne_eqb _ _ other)))

    module _ (own : (trailer_of bytes).label ≡ byte_of asked) where
      pub room_refuses : room < (trailer_of bytes).count → verdict (read_sheet_rows bytes asked room) ≡ Err RoomTooShort
      unfolding read_sheet_rows
      room_refuses short = sym (judged_wrong (skips _ c (past (ap not (eq-eqb _ _ own)) top)) (lt-ltb _ _ short))

      pub none_refuses : (trailer_of bytes).count ≤ room → verdict (read_sheet_rows bytes asked room) ≡ Ok tt
      unfolding read_sheet_rows
      none_refuses fits = sym (judged_fine (skips _ c (past (ap not (eq-eqb _ _ own)) (past (le-ltb _ _ fits) top))))

-- the byte of a label stands for it
pub own_label : (label : Label) {byte : ℕ} → byte ≡ byte_of label → label_of byte ≡ label
own_label Practice e = rw e refl
own_label Live e = rw e refl

-- no row of reading holds
pub record Passed (bytes : List ℕ) (asked : Label) (room : ℕ) : Type 0 where
  pub reads : ReadsCleanly cuts_form bytes
  pub labelled : (trailer_of bytes).label ≡ byte_of asked
  pub roomy : (trailer_of bytes).count ≤ room

module _ (bytes : List ℕ) (asked : Label) (room : ℕ) where
  pub passed : verdict (read_sheet_rows bytes asked room) ≡ Ok tt → Passed bytes asked room
  unfolding read_sheet_rows
  passed e =
      let b = both_clear (clean_rows cuts_form bytes) _ e in
      let l = clear OtherLabel _ _ b.1 in
      let r = clear RoomTooShort _ _ l.1 in
      record { reads = b.0; labelled = eqb-true _ _ (not-false _ l.0); roomy = ltb-false _ _ r.0 }

  -- what an answer that is no refusal says
  pub was_read : {label : Label} {count : ℕ} {settings : Settings} → read_sheet_answer bytes asked room ≡ read label settings count
      → Passed bytes asked room × (read asked (trailer_of bytes).settings (trailer_of bytes).count ≡ read label settings count)
  unfolding read_sheet_answer
  was_read {label} {count} {settings} e =
      let f = succeeded (verdict (read_sheet_rows bytes asked room)) Err _ e never in
      let p = passed f.0 in
      (p, ap (λ (l : Label). read l (trailer_of bytes).settings (trailer_of bytes).count) (sym (own_label asked p.labelled)) ∙ f.1)
    where
      never : (why : Refusal) → Err why ≡ read label settings count → ⊥
      never why p = impossible (cc)

  pub not_read : (ReadsCleanly cuts_form bytes → ⊥) → (why : Refusal) × (read_sheet_answer bytes asked room ≡ Err why)
  unfolding read_sheet_answer
  not_read never = by_verdict (verdict (read_sheet_rows bytes asked room)) (λ v. absurd (never (passed v).reads)) (λ why v. (why, rw v))
