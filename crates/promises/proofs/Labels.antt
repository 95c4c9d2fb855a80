-- Demand 1, the label's half: a sheet asked for as live is never read from one marked practice.
use Rattle.std.specs.Prelude.{Ok, Err}
use Prim.Native.Nat.{ℕ}
use mathlib.Core.Path.{◌≡◌, refl, sym, ap, ◌∙◌}
use mathlib.Core.List.{List, ◌++◌}
use native.Mathlib.Omega.{arith}
use lib.ListN.{length, take, get_or}
use Rattle.terms.specs.declared.Settings.{Settings}
use Rattle.terms.specs.declared.Label.{Label}
use Rattle.terms.specs.declared.Label.TheVariants.{Practice, Live}
use Rattle.terms.specs.declared.Refusal.TheVariants.{OtherLabel}
use Rattle.terms.specs.Labels.{byte_of}
use Rattle.sheet_format.specs.Forms.{cuts_form}
use Rattle.sheet_format.specs.Trailer.{trailer_in}
use Rattle.sheet_format.specs.Sheets.{sheet_of}
use Rattle.sheet_format.specs.Clean.{trailer_bytes, trailer_of}
use Rattle.sheet_format.proofs.Cleanly.{cleanly}
use Rattle.sheet.specs.Answers.{read, sheet_label}
use Rattle.sheet.specs.Write.{write_sheet_answer, write_sheet_leaves}
use Rattle.sheet.specs.Read.{read_sheet_answer, read_sheet_leaves}
use Rattle.sheet.proofs.Reading.{label_refuses, was_read}
use Rattle.promises.proofs.SheetsBack.{written_there, read_back, the_label}

-- P is 80, L is 76
pub label_bytes : (byte_of Practice ≡ 80) × (byte_of Live ≡ 76)
label_bytes = (refl, refl)

-- what is read when live is asked bears L, in the answer and in the sheet's own bytes
pub live_is_live : (bytes : List ℕ) (room : ℕ) {label : Label} {count : ℕ} {settings : Settings} → read_sheet_answer bytes Live room ≡ read label settings count
    → (byte_of label ≡ byte_of Live) × (get_or (trailer_bytes bytes) 4 0 ≡ byte_of Live)
unfolding trailer_of trailer_in sheet_label
live_is_live bytes room e = let r = was_read bytes Live room e in (sym (ap sheet_label r.1), r.0.labelled)

-- a sheet written as practice and asked for as live is refused by 15, and nothing is written
pub practice_is_never_live : (settings : Settings) (list bytes : List ℕ) {size : ℕ} → write_sheet_answer settings list (length bytes) ≡ Ok size → (before lent : List ℕ)
    → (read_sheet_answer (before ++ take size (write_sheet_leaves settings Practice list bytes)) Live (length lent) ≡ Err OtherLabel)
    × (read_sheet_leaves (before ++ take size (write_sheet_leaves settings Practice list bytes)) Live lent ≡ lent)
unfolding read_sheet_answer read_sheet_leaves
practice_is_never_live settings list bytes wrote before lent =
    let own : (trailer_of (before ++ sheet_of cuts_form settings Practice list)).label ≡ byte_of Practice = the_label settings Practice list bytes wrote before in
    let v =
    label_refuses (before ++ sheet_of cuts_form settings Practice list) Live (length lent) (cleanly (read_back settings Practice list bytes wrote before).clean)
    (λ same. omega (arith, sym own ∙ same))
    in
    rw (written_there settings Practice list bytes wrote) (rw v, rw v)
