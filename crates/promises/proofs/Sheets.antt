-- The two calls of the sheet: their numbers by their tables of rows, what a refusal leaves, and the values beside each answer.
use Rattle.std.specs.Prelude.{Err}
use Prim.Native.Nat.{ℕ, ◌+◌, ◌*◌}
use mathlib.Core.Path.{◌≡◌, sym, ap, ◌∙◌}
use mathlib.Core.List.{List}
use lib.ListN.{length, take, drop}
use lib.Seq.{drop-append_seam}
use Rattle.laws.specs.Over.{over}
use Rattle.laws.proofs.Writing.{take_over}
use Rattle.terms.specs.declared.Settings.{Settings}
use Rattle.terms.specs.declared.Label.{Label}
use Rattle.terms.specs.Labels.{byte_of}
use Rattle.terms.specs.Answers.{answer_number, answer_count}
use Rattle.terms.specs.Rows.{verdict, first_row}
use Rattle.terms.proofs.Verdicts.{by_verdict, through, refused_keeps, none_holds}
use Rattle.sheet_format.specs.Forms.{cuts_form}
use Rattle.sheet_format.specs.Sheets.{sheet_of}
use Rattle.sheet_format.specs.Clean.{trailer_of, list_in}
use Rattle.sheet_format.proofs.Forms.{cuts_formed}
use Rattle.sheet_format.proofs.Cleanly.{clean, length_list}
use Rattle.sheet_format.proofs.RoundTrip.{length_sheet}
use Rattle.sheet.specs.Write.{write_sheet_rows, write_sheet_answer, write_sheet_leaves}
use Rattle.sheet.specs.Read.{read_sheet_rows, read_sheet_answer, read_sheet_leaves}
use Rattle.sheet.specs.Answers.{sheet_number, sheet_label, sheet_settings, sheet_count}
use Rattle.sheet.proofs.Writing.{writable}
use Rattle.sheet.proofs.Reading.{own_label, passed}
use Rattle.promises.specs.Sheets.{NothingRead, ReadOut, WrittenOut}

-- what stands past the entries that are written over others
past_over : (l b : List ℕ) (n : ℕ) → length l ≡ n → (take n (over l b) ≡ l) × (drop n (over l b) ≡ drop n b)
unfolding over
past_over l b n e = rw (← e) (take_over l b, drop-append_seam l (drop (length l) b))

-- writing: 1, 10, 16, 5
module _ (settings : Settings) (list : List ℕ) where
  pub write_sheet_rows_lem : (room : ℕ) → answer_number (write_sheet_answer settings list room) ≡ first_row (write_sheet_rows settings list room)
  unfolding answer_number write_sheet_answer
  write_sheet_rows_lem room = through answer_number (verdict (write_sheet_rows settings list room)) Err _

  pub write_sheet_leaves_lem : (label : Label) (bytes : List ℕ) → (answer_number (write_sheet_answer settings list (length bytes)) ≡ 0 → ⊥)
      → write_sheet_leaves settings label list bytes ≡ bytes
  unfolding write_sheet_leaves
  write_sheet_leaves_lem label bytes refusal =
      refused_keeps (verdict (write_sheet_rows settings list (length bytes))) bytes _ (λ none. refusal (write_sheet_rows_lem (length bytes) ∙ none))

  -- beside a refusal the count is 0
  pub write_sheet_counts_none : (room : ℕ) → (answer_number (write_sheet_answer settings list room) ≡ 0 → ⊥) → answer_count (write_sheet_answer settings list room) ≡ 0
  unfolding answer_number answer_count write_sheet_answer
  write_sheet_counts_none room refusal = by_verdict (verdict (write_sheet_rows settings list room)) (λ v. absurd (refusal (rw v))) (λ why v. rw v)

  pub write_sheet_values : (label : Label) (bytes : List ℕ) → answer_number (write_sheet_answer settings list (length bytes)) ≡ 0
      → WrittenOut settings label list (write_sheet_answer settings list (length bytes)) bytes (write_sheet_leaves settings label list bytes)
  unfolding answer_count write_sheet_answer write_sheet_leaves
  write_sheet_values label bytes e =
      let v = none_holds (verdict (write_sheet_rows settings list (length bytes))) (sym (write_sheet_rows_lem (length bytes)) ∙ e) in
      let w = writable settings list (length bytes) v in
      let p = past_over (sheet_of cuts_form settings label list) bytes (8 * length list + 32) (length_sheet cuts_form cuts_formed settings label list w.in-range) in
      record { count = rw v; sheet = rw v p.0; others_stay = rw v p.1 }

-- reading: 12, 14, 13, 10, 15, 5
module _ (bytes : List ℕ) (asked : Label) where
  pub read_sheet_rows_lem : (room : ℕ) → sheet_number (read_sheet_answer bytes asked room) ≡ first_row (read_sheet_rows bytes asked room)
  unfolding sheet_number read_sheet_answer
  read_sheet_rows_lem room = through sheet_number (verdict (read_sheet_rows bytes asked room)) Err _

  pub read_sheet_leaves_lem : (list : List ℕ) → (sheet_number (read_sheet_answer bytes asked (length list)) ≡ 0 → ⊥) → read_sheet_leaves bytes asked list ≡ list
  unfolding read_sheet_leaves
  read_sheet_leaves_lem list refusal =
      refused_keeps (verdict (read_sheet_rows bytes asked (length list))) list _ (λ none. refusal (read_sheet_rows_lem (length list) ∙ none))

  pub read_sheet_tells_nothing : (room : ℕ) → (sheet_number (read_sheet_answer bytes asked room) ≡ 0 → ⊥) → NothingRead (read_sheet_answer bytes asked room)
  unfolding sheet_number sheet_label sheet_settings sheet_count read_sheet_answer
  read_sheet_tells_nothing room refusal =
      by_verdict (verdict (read_sheet_rows bytes asked room)) (λ v. absurd (refusal (rw v))) (λ why v. record { label = rw v; settings = rw v; count = rw v })

  pub read_sheet_values : (list : List ℕ) → sheet_number (read_sheet_answer bytes asked (length list)) ≡ 0
      → ReadOut bytes asked (read_sheet_answer bytes asked (length list)) list (read_sheet_leaves bytes asked list)
  unfolding sheet_label sheet_settings sheet_count read_sheet_answer read_sheet_leaves
  read_sheet_values list e =
      let v = none_holds (verdict (read_sheet_rows bytes asked (length list))) (sym (read_sheet_rows_lem (length list)) ∙ e) in
      let r = passed bytes asked (length list) v in
      let p = past_over (list_in bytes) list (trailer_of bytes).count (length_list cuts_form bytes (clean cuts_form bytes r.reads)) in
      record { label = rw v (ap byte_of (own_label asked r.labelled)); settings = rw v; count = rw v; entries = rw v p.0; others_stay = rw v p.1 }
