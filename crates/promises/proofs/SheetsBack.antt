-- Demand 2, second half: sheets are written and read back exactly.
use Rattle.std.specs.Prelude.{Ok, Err}
use Prim.Native.Nat.{ℕ, ◌+◌, ◌-◌, ◌*◌, ◌%◌, ◌^◌, ◌≤◌, ◌<◌}
use mathlib.Core.Path.{◌≡◌, refl, sym, ap, ◌∙◌}
use mathlib.Core.List.{List, [], ◌++◌}
use native.Mathlib.Omega.{arith}
use lib.ListN.{length, take, drop, get_or}
use Rattle.laws.specs.Over.{over}
use Rattle.laws.specs.Bytes.{Bytes, number}
use Rattle.laws.proofs.Writing.{take_over}
use Rattle.terms.specs.declared.Settings.{Settings}
use Rattle.terms.specs.declared.Label.{Label}
use Rattle.terms.specs.declared.Label.TheVariants.{Practice}
use Rattle.terms.specs.declared.Refusal.{Refusal}
use Rattle.terms.specs.Labels.{byte_of}
use Rattle.terms.specs.Rows.{verdict}
use Rattle.words.specs.Numbers.{big_endian, written, numbers, numbers_of}
use Rattle.words.proofs.Same.{same_true}
use Rattle.sheet_format.specs.declared.trailer.Trailer.{Trailer}
use Rattle.sheet_format.specs.Forms.{total, check_word, cuts_form}
use Rattle.sheet_format.specs.Trailer.{fields, trailer_in, trailer_for}
use Rattle.sheet_format.specs.Sheets.{with_check, sealed, sheet_of, damaged}
use Rattle.sheet_format.specs.Clean.{trailer_bytes, trailer_of, sheet_in, body_in, list_in, ReadsCleanly}
use Rattle.sheet_format.proofs.Forms.{cuts_formed}
use Rattle.sheet_format.proofs.Lent.{there}
use Rattle.sheet_format.proofs.Cleanly.{cleanly, clean}
use Rattle.sheet_format.proofs.RoundTrip.{Found, found, length_sheet, bytes_sheet}
use Rattle.sheet_format.proofs.Canonical as format
use Rattle.sheet_format.proofs.Damage.{words_add, damage_found}
use Rattle.sheet.specs.Answers.{read, sheet_settings}
use Rattle.sheet.specs.Write.{write_sheet_rows, write_sheet_answer, write_sheet_leaves}
use Rattle.sheet.specs.Read.{read_sheet_rows, read_sheet_answer, read_sheet_leaves}
use Rattle.sheet.proofs.Writing.{Writable, writable}
use Rattle.sheet.proofs.Reading.{own_label, none_refuses, was_read, not_read}
use Rattle.promises.specs.Sheets.{LaidOut, Sound, figure_settings, figure_list, figure_bytes}
use Rattle.promises.proofs.Successes.{succeeds}

-- a call that wrote a sheet of so many bytes
module _ (settings : Settings) (label : Label) (list bytes : List ℕ) {size : ℕ} (wrote : write_sheet_answer settings list (length bytes) ≡ Ok size) where
  passed : (verdict (write_sheet_rows settings list (length bytes)) ≡ Ok tt) × (8 * length list + 32 ≡ size)
  unfolding write_sheet_answer
  passed = succeeds (verdict (write_sheet_rows settings list (length bytes))) (8 * length list + 32) wrote

  was_writable : Writable settings list (length bytes)
  was_writable = writable settings list (length bytes) passed.0

  -- what is written
  pub written_there : take size (write_sheet_leaves settings label list bytes) ≡ sheet_of cuts_form settings label list
  unfolding write_sheet_leaves
  written_there =
      let whole : size ≡ length (sheet_of cuts_form settings label list) = sym passed.1 ∙ sym (length_sheet cuts_form cuts_formed settings label list was_writable.in-range) in
      rw (passed.0, whole) (take_over (sheet_of cuts_form settings label list) bytes)

  -- what the reader finds in it, with any bytes before it
  module _ (before : List ℕ) where
    pub read_back : Found cuts_form settings label list (before ++ sheet_of cuts_form settings label list)
    read_back = let w = was_writable in found cuts_form cuts_formed settings label list w.in-range before w.well-formed w.few

    pub the_label : (trailer_of (before ++ sheet_of cuts_form settings label list)).label ≡ byte_of label
    unfolding trailer_for
    the_label = ap (λ (t : Trailer). t.label) read_back.trailer

    the_count : (trailer_of (before ++ sheet_of cuts_form settings label list)).count ≡ length list
    unfolding trailer_for
    the_count = ap (λ (t : Trailer). t.count) read_back.trailer

  -- written, then read with any bytes before it: the same label, settings and list
  pub round_trip : (before lent : List ℕ) → length list ≤ length lent
      → (read_sheet_answer (before ++ take size (write_sheet_leaves settings label list bytes)) label (length lent) ≡ read label settings (length list))
      × (read_sheet_leaves (before ++ take size (write_sheet_leaves settings label list bytes)) label lent ≡ over list lent)
  unfolding read_sheet_answer read_sheet_leaves trailer_for
  round_trip before lent roomy =
      let sheet = before ++ sheet_of cuts_form settings label list in
      let back = read_back before in
      let v : verdict (read_sheet_rows sheet label (length lent)) ≡ Ok tt =
      none_refuses sheet label (length lent) (cleanly back.clean) (the_label before) (rw (the_count before) roomy) in
      rw written_there (rw (v, back.trailer, own_label label refl), rw (v, back.the_list))

  -- what is written reads cleanly, whatever stands before it: so what is promised below of clean bytes holds of it
  pub written_cleanly : (before : List ℕ) → Sound (before ++ take size (write_sheet_leaves settings label list bytes)) (take size (write_sheet_leaves settings label list bytes))
  written_cleanly before =
      rw written_there (record {
        cleanly = cleanly (read_back before).clean;
        whole = (read_back before).whole;
        of_bytes = bytes_sheet cuts_form cuts_formed settings label list was_writable.in-range;
      })

  -- each part stands where document 01 puts it
  pub laid_out : let sheet = take size (write_sheet_leaves settings label list bytes) in LaidOut settings label list (take (8 * length list) sheet) (drop (8 * length list) sheet)
  unfolding trailer_of trailer_bytes trailer_in trailer_for body_in list_in
  laid_out =
      let n = length list in
      let sheet = sheet_of cuts_form settings label list in
      let back = read_back [] in
      let place : length sheet - 32 ≡ 8 * n = omega (arith, length_sheet cuts_form cuts_formed settings label list was_writable.in-range) in
      let told : trailer_in (drop (8 * n) sheet) ≡ trailer_for settings label n = rw place at back.trailer in
      let distant : (trailer_of sheet).distance ≡ 8 * n = ap (λ (t : Trailer). t.distance) back.trailer in
      let marked = (there sheet cuts_form.mark back.clean.present).1 in
      rw written_there (record {
        offsets = rw (back.whole, distant) at back.the_list;
        mark = sym (same_true cuts_form.mark (take 4 (drop (8 * n) sheet)) (rw place at marked));
        label_byte = ap (λ (t : Trailer). t.label) told;
        bits = ap (λ (t : Trailer). t.settings.bits) told;
        zero_6 = ap (λ (t : Trailer). t.six) told;
        zero_7 = ap (λ (t : Trailer). t.seven) told;
        target = ap (λ (t : Trailer). t.settings.target) told;
        minimum = ap (λ (t : Trailer). t.settings.minimum) told;
        maximum = ap (λ (t : Trailer). t.settings.maximum) told;
        count = ap (λ (t : Trailer). t.count) told;
        distance = ap (λ (t : Trailer). t.distance) told;
      })

-- settings, list and label fix every byte: a sheet that reads is the one that the writer makes of what was read
pub canonical : (bytes : List ℕ) (asked : Label) (room : ℕ) {label : Label} {count : ℕ} {settings : Settings} → Bytes bytes → read_sheet_answer bytes asked room ≡ read label settings count
    → sheet_in bytes ≡ sheet_of cuts_form settings asked (list_in bytes)
unfolding sheet_settings
canonical bytes asked room h e =
    let r = was_read bytes asked room e in
    rw (sym (ap sheet_settings r.1)) (format.canonical cuts_form bytes h asked (clean cuts_form bytes r.0.reads) r.0.labelled)

-- bytes that read cleanly
module _ (bytes : List ℕ) (reads : ReadsCleanly cuts_form bytes) where
  -- all 32-bit words of body and trailer add to zero modulo 2^32
  pub words_add_to_zero : total (numbers_of 4 (sheet_in bytes)) % 2 ^ 32 ≡ 0
  words_add_to_zero = words_add bytes reads

  -- one damaged 32-bit word, in body or trailer, is always refused, whatever stands before the sheet and whatever is asked
  pub one_damaged_word : Bytes bytes → (k word : ℕ) (before : List ℕ) (asked : Label) (room : ℕ)
      → k < length (numbers_of 4 (sheet_in bytes)) → word < 2 ^ 32 → (word ≡ get_or (numbers_of 4 (sheet_in bytes)) k 0 → ⊥)
      → (why : Refusal) × (read_sheet_answer (before ++ damaged k word (sheet_in bytes)) asked room ≡ Err why)
  one_damaged_word h k word before asked room inside fits differs = not_read _ asked room (damage_found bytes reads h before k word inside fits differs)

-- log C's list as practice, byte by byte
pub practice_figure : sheet_of cuts_form figure_settings Practice figure_list ≡ figure_bytes
unfolding sheet_of sealed with_check fields trailer_for written big_endian numbers_of numbers number total check_word
practice_figure = refl
