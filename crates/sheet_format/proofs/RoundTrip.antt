-- A sheet that is written reads cleanly, in any form and with any bytes before it: the same label, settings and list.
use Rattle.std.proofs.Common.{◌≡◌, ℕ, ◌+◌, ◌-◌, ◌*◌, ◌^◌, ◌<◌, ◌≤◌, true, List, [], ◌∷◌, ◌++◌, length, take, refl, ap, ◌∙◌, append_assoc, mod-eq_of_lt, arith, lit<, length-append, take_all, take_at, pow_mono, lt-ltb, eq-eqb, le-leb}
use lib.Seq.{take-append_seam, drop-append_seam}
use Rattle.laws.specs.Bytes.{Bytes}
use Rattle.terms.specs.declared.Settings.{Settings}
use Rattle.terms.specs.declared.Label.{Label}
use Rattle.terms.specs.declared.Label.TheVariants.{Practice, Live}
use Rattle.terms.specs.Labels.{byte_of}
use Rattle.terms.specs.Settings.{in_range}
use Rattle.terms.proofs.Ranges.{ranges}
use Rattle.lists.specs.WellFormed.{well_formed}
use Rattle.lists.proofs.Reaching.{reaches, entries_low}
use Rattle.words.specs.Numbers.{big_endian, number, written, numbers_of, number_at}
use Rattle.words.proofs.Same.{same_self}
use Rattle.words.proofs.BigEndian.{length-big_endian, length_written, number_big_endian}
use Rattle.words.proofs.Back.{Wide, numbers_of_written, bytes_test, bytes_append, bytes_big_endian, bytes_written}
use Rattle.sheet_format.specs.declared.trailer.Trailer.{Trailer}
use Rattle.sheet_format.specs.Forms.{Form}
use Rattle.sheet_format.specs.Trailer.{most_cuts, is_label, fields, trailer_in, trailer_for, trailer_right}
use Rattle.sheet_format.specs.Sheets.{checked, with_check, sealed, sheet_of}
use Rattle.sheet_format.specs.Clean.{trailer_bytes, trailer_of, sheet_in, body_in, list_in, has_trailer, has_list}
use Rattle.sheet_format.proofs.Forms.{Formed, by_mark}
use Rattle.sheet_format.proofs.Parts.{length_fields, length_front, trailer_at, sheet_at}
use Rattle.sheet_format.proofs.Cleanly.{Clean}

-- the entries of a well-formed list are 8 bytes wide
entries_wide : (minimum maximum : ℕ) (list : List ℕ) → well_formed minimum maximum list ≡ true → Wide 8 list
unfolding well_formed
entries_wide minimum maximum list well i =
    let r = reaches minimum maximum 0 list well in
    omega (arith, entries_low r.0 i, r.1)

-- a number of a width is the one that is read
number_at_back : (width n : ℕ) → n < 2 ^ (8 * width) → number (big_endian width n) ≡ n
number_at_back width n h = number_big_endian width n ∙ mod-eq_of_lt h

-- the fields are found where they were written, whatever follows
trailer_back : (mark : List ℕ) (t : Trailer) (rest : List ℕ) → length mark ≡ 4 → in_range t.settings ≡ true → t.count ≤ most_cuts → t.distance ≤ 8 * most_cuts
    → trailer_in (fields mark t ++ rest) ≡ t
unfolding trailer_in fields written number_at big_endian
trailer_back mark t rest four ok count distance =
    let r = ranges t.settings ok in
    by_mark (λ m. trailer_in (fields m t ++ rest) ≡ t)
    (λ a b c d.
    simp (
      number_at_back 4 t.settings.target (omega (arith, r.low_target, pow_mono {i = t.settings.bits} {j = 31} r.few_bits)),
      number_at_back 4 t.settings.minimum (omega (arith, r.ordered, r.bounded)),
      number_at_back 4 t.settings.maximum (omega (arith, r.bounded)),
      number_at_back 4 t.count (omega arith),
      number_at_back 4 t.distance (omega arith),
    ))
    mark four

number_at_end : (l w : List ℕ) → length w ≤ 4 → number_at (length l) 4 (l ++ w) ≡ number w
unfolding number_at
number_at_end l w h = rw (drop-append_seam l w, take_all 4 w h)

-- bytes with their check word are checked
checked_with : (form : Form) (front : List ℕ) → Formed form → checked form (with_check form front) ≡ true
unfolding checked with_check
checked_with form front ok =
    let check = form.word (numbers_of 4 front) in
    let word = big_endian 4 check in
    let size : length word ≡ 4 = length-big_endian 4 check in
    let place : length (front ++ word) - 4 ≡ length front = rw (length-append, size) (omega arith) in
    let found : number_at (length front) 4 (front ++ word) ≡ check = number_at_end front word (omega arith) ∙ number_at_back 4 check (ok.low (numbers_of 4 front)) in
    rw (place, take-append_seam front word, found) (eq-eqb check _ refl)

label_known : (label : Label) → is_label (byte_of label) ≡ true
unfolding is_label
label_known Practice = refl
label_known Live = refl

present_for : (mark bytes rest : List ℕ) (t : Trailer) → length mark ≡ 4 → 32 ≤ length bytes → trailer_bytes bytes ≡ fields mark t ++ rest → has_trailer mark bytes ≡ true
unfolding has_trailer fields
present_for mark bytes rest t four h e = rw (le-leb 32 (length bytes) h, e, append_assoc, take_at mark _ 4 four) (same_self mark)

right_for : (settings : Settings) (label : Label) (count before : ℕ) → in_range settings ≡ true → count ≤ most_cuts → 8 * count ≤ before
    → trailer_right before (trailer_for settings label count) ≡ true
unfolding trailer_right trailer_for
right_for settings label count before ok few room =
    simp (label_known label, ok, le-leb count most_cuts few, eq-eqb (8 * count) (8 * count) refl, le-leb (8 * count) before room)

-- what the reader finds in a written sheet, with any bytes before it
pub record Found (form : Form) (settings : Settings) (label : Label) (list bytes : List ℕ) : Type 0 where
  pub clean : Clean form bytes
  pub trailer : trailer_of bytes ≡ trailer_for settings label (length list)
  pub whole : sheet_in bytes ≡ sheet_of form settings label list
  pub the_list : list_in bytes ≡ list

module _ (form : Form) (ok : Formed form) (settings : Settings) (label : Label) (list : List ℕ) (in-range : in_range settings ≡ true) where
  pub length_sheet : length (sheet_of form settings label list) ≡ 8 * length list + 32
  unfolding sheet_of sealed with_check
  length_sheet = rw (length-append, length_front form.mark _ _ ok.four, length_written, length-big_endian) (omega arith)

  -- what is written is bytes
  pub bytes_sheet : Bytes (sheet_of form settings label list)
  unfolding sheet_of sealed with_check fields trailer_for
  bytes_sheet =
      let signs : List ℕ = byte_of label ∷ settings.bits ∷ 0 ∷ 0 ∷ [] in
      let bits : settings.bits < 256 = omega (arith, (ranges settings in-range).few_bits) in
      let signed : Bytes signs = bytes_test signs (simp (lt-ltb (byte_of label) 256 (letter label), lt-ltb settings.bits 256 bits)) in
      let numbers = settings.target ∷ settings.minimum ∷ settings.maximum ∷ length list ∷ 8 * length list ∷ [] in
      let trailer = form.mark ++ (signs ++ written 4 numbers) in
      let front = written 8 list ++ trailer in
      let trailed : Bytes trailer = bytes_append form.mark (signs ++ written 4 numbers) ok.bytes (bytes_append signs (written 4 numbers) signed (bytes_written 4 numbers)) in
      bytes_append front (big_endian 4 (form.word (numbers_of 4 front))) (bytes_append (written 8 list) trailer (bytes_written 8 list) trailed) (bytes_big_endian 4 _)
    where
      letter : (label : Label) → byte_of label < 256
      letter Practice = lit< tt
      letter Live = lit< tt

  module _ (before : List ℕ) (well-formed : well_formed settings.minimum settings.maximum list ≡ true) (few : length list ≤ most_cuts) where
    pub found : Found form settings label list (before ++ sheet_of form settings label list)
    unfolding sheet_of sealed with_check trailer_of trailer_for body_in list_in has_list
    found =
        let t = trailer_for settings label (length list) in
        let body = written 8 list in
        let front = body ++ fields form.mark t in
        let word = big_endian 4 (form.word (numbers_of 4 front)) in
        let sheet = front ++ word in
        let bytes = before ++ sheet in
        let has_word : length word ≡ 4 = length-big_endian 4 (form.word (numbers_of 4 front)) in
        let room : length bytes ≡ length before + 8 * length list + 32 = rw (length-append, length_sheet) (omega arith) in
        let regroup : bytes ≡ before ++ body ++ (fields form.mark t ++ word) = simp append_assoc in
        let part : trailer_bytes bytes ≡ fields form.mark t ++ word =
        rw regroup (trailer_at (before ++ body) (fields form.mark t ++ word) (rw (length-append, length_fields form.mark t ok.four, has_word))) in
        let trailer : trailer_of bytes ≡ t = rw part (trailer_back form.mark t word ok.four in-range few (omega arith)) in
        let distance : (trailer_of bytes).distance ≡ 8 * length list = ap (λ (x : Trailer). x.distance) trailer in
        let whole : sheet_in bytes ≡ sheet = sheet_at before sheet (8 * length list) length_sheet distance in
        let first : take (8 * length list) sheet ≡ body =
        rw (append_assoc body (fields form.mark t) word) (take_at body (fields form.mark t ++ word) (8 * length list) (length_written 8 list)) in
        let the_list : list_in bytes ≡ list =
        rw (whole, distance, first) (numbers_of_written 8 (lit< tt) list (entries_wide settings.minimum settings.maximum list well-formed)) in
        let clean : Clean form bytes =
        record {
          present = present_for form.mark bytes word t ok.four (omega (arith, room)) part;
          right = rw trailer (right_for settings label (length list) (length bytes - 32) in-range few (omega (arith, room)));
          sound = rw whole (checked_with form front ok);
          listed = rw (the_list, trailer) well-formed;
        } in
        record { clean = clean; trailer = trailer; whole = whole; the_list = the_list }
