-- A sheet as it is laid out: how long its fields are, where its parts stand, and the whole from its parts.
use Rattle.std.proofs.Common.{◌≡◌, ℕ, ◌+◌, ◌-◌, ◌*◌, ◌≤◌, List, [], ◌∷◌, ◌++◌, length, take, drop, refl, ◌∙◌, sym, ap, append_assoc, arith, length-append, length-drop, length-take-le, drop-drop}
use lib.Seq.{take-append_seam, drop-append_seam, drop-append-add, take-take}
use Rattle.laws.specs.Over.{over, over_from}
use Rattle.laws.proofs.Writing.{take_over, over_from_over}
use Rattle.terms.specs.declared.Settings.{Settings}
use Rattle.terms.specs.declared.Label.{Label}
use Rattle.words.specs.Numbers.{big_endian, written, numbers_of}
use Rattle.words.proofs.BigEndian.{length-big_endian, length_written}
use Rattle.sheet_format.specs.declared.trailer.Trailer.{Trailer}
use Rattle.sheet_format.specs.Forms.{check_word, cuts_form}
use Rattle.sheet_format.specs.Trailer.{fields, trailer_for}
use Rattle.sheet_format.specs.Sheets.{with_check, sealed, sheet_of}
use Rattle.sheet_format.specs.Clean.{trailer_bytes, trailer_of, sheet_in}

pub length_fields : (mark : List ℕ) (t : Trailer) → length mark ≡ 4 → length (fields mark t) ≡ 28
unfolding fields written big_endian
length_fields mark t four = rw (length-append, four)

-- what is written after l, past it, is written with l
written_after : (l m b : List ℕ) → l ++ over m (drop (length l) b) ≡ over (l ++ m) b
unfolding over over_from
written_after l m b = rw (take-append_seam, drop-append_seam) at (over_from_over l m b)

-- the parts of a trailer's fields, written one after the other: together the fields, and what stands past them stays
module _ (mark : List ℕ) (t : Trailer) where
  abbrev signs : List ℕ
  signs = t.label ∷ t.settings.bits ∷ t.six ∷ t.seven ∷ []

  abbrev sizes : List ℕ
  sizes = written 4 (t.settings.target ∷ t.settings.minimum ∷ t.settings.maximum ∷ t.count ∷ t.distance ∷ [])

  pub fields_over : (b : List ℕ) {second rest third : List ℕ} → length mark ≡ 4 → second ≡ drop 4 b → rest ≡ drop 4 second → third ≡ over sizes rest
      → mark ++ (signs ++ third) ≡ over (fields mark t) b
  unfolding fields
  fields_over b {second} four e₁ e₂ e₃ =
      let past : second ≡ drop (length mark) b = e₁ ∙ ap (λ n. drop n b) (sym four) in
      rw (e₃, e₂, written_after signs sizes second, past) (written_after mark (signs ++ sizes) b)

-- what stands before a sheet's check word
pub length_front : (mark body : List ℕ) (t : Trailer) → length mark ≡ 4 → length (body ++ fields mark t) ≡ length body + 28
length_front mark body t four = rw (length-append, length_fields mark t four)

-- the last 32 bytes are the trailer, and those before it as its distance says the body
pub trailer_at : (front last : List ℕ) → length last ≡ 32 → trailer_bytes (front ++ last) ≡ last
unfolding trailer_bytes
trailer_at front last e =
    let place : length (front ++ last) - 32 ≡ length front = rw length-append (omega arith) in
    rw place (drop-append_seam front last)

pub sheet_at : (before sheet : List ℕ) (d : ℕ) → length sheet ≡ d + 32 → (trailer_of (before ++ sheet)).distance ≡ d → sheet_in (before ++ sheet) ≡ sheet
unfolding sheet_in
sheet_at before sheet d size e =
    let place : length (before ++ sheet) - 32 - d ≡ length before = rw length-append (omega arith) in
    rw (e, place) (drop-append_seam before sheet)

module _ (settings : Settings) (label : Label) (count : ℕ) (b : List ℕ) (room : 8 * count + 32 ≤ length b) where
  length_seal : length (sealed cuts_form settings label count (take (8 * count) b)) ≡ 8 * count + 32
  unfolding sealed with_check
  length_seal =
      let body : length (take (8 * count) b) ≡ 8 * count = length-take-le (8 * count) b (omega (arith, room)) in
      let front = length_front cuts_form.mark (take (8 * count) b) (trailer_for settings label count) refl in
      rw (length-append, front, body, length-big_endian) (omega arith)

  -- fields and check word after a body: together they seal it, and what stands past them stays
  pub body_sealed : {body rest written check : List ℕ} → body ≡ take (8 * count) (take (8 * count + 28) b) → rest ≡ drop (8 * count + 28) b
      → written ≡ fields cuts_form.mark (trailer_for settings label count) → check ≡ big_endian (length (take 4 rest)) (check_word (numbers_of 4 (body ++ written)))
      → (body ++ written) ++ (check ++ drop 4 rest) ≡ over (sealed cuts_form settings label count (take (8 * count) b)) b
  unfolding over sealed with_check
  body_sealed {body} {rest} e₁ e₂ e₃ e₄ =
      let four : length (take 4 rest) ≡ 4 = length-take-le 4 rest (rw (e₂, length-drop) (omega (arith, room))) in
      let own : body ≡ take (8 * count) b = e₁ ∙ take-take (8 * count) (8 * count + 28) b (omega arith) in
      let past : 8 * count + 28 + 4 ≡ 8 * count + 32 = omega arith in
      rw (e₄, four, own, e₂, e₃, drop-drop, past, length_seal, append_assoc (take (8 * count) b ++ fields cuts_form.mark (trailer_for settings label count))) refl

-- what stands already, written over again
over_again : (l m b : List ℕ) → over (l ++ m) (over l b) ≡ over (l ++ m) b
unfolding over
over_again l m b = rw (length-append, drop-append-add l (drop (length l) b) (length m), drop-drop)

-- a body and its seal: together the sheet
pub sheet_written : (settings : Settings) (label : Label) (list b : List ℕ) {b₁ b₂ : List ℕ} → b₁ ≡ over (written 8 list) b
    → b₂ ≡ over (sealed cuts_form settings label (length list) (take (8 * length list) b₁)) b₁ → b₂ ≡ over (sheet_of cuts_form settings label list) b
unfolding sheet_of sealed with_check
sheet_written settings label list b {b₁} {b₂} body e =
    let found : take (8 * length list) b₁ ≡ written 8 list = rw (body, ← (length_written 8 list)) (take_over (written 8 list) b) in
    let t = trailer_for settings label (length list) in
    let check = big_endian 4 (check_word (numbers_of 4 (written 8 list ++ fields cuts_form.mark t))) in
    rw (e, found, body, append_assoc (written 8 list) (fields cuts_form.mark t) check) (over_again (written 8 list) (fields cuts_form.mark t ++ check) b)
