-- A sheet is canonical in its form: what reads cleanly is, byte for byte, what is written for that label, those settings and that list.
use Rattle.std.proofs.Common.{◌≡◌, ℕ, ◌+◌, ◌-◌, ◌*◌, ◌<◌, ◌≤◌, true, List, [], ◌∷◌, ◌++◌, length, get_or, take, drop, sym, ap, ◌∙◌, ap₂, append-nil, arith, lit<, length-drop, take-append-drop, length-take-le, take_all, drop-cons, drop-drop, take-add}
use Rattle.laws.specs.Bytes.{Bytes}
use Rattle.laws.proofs.Bytes.{bytes_drop}
use Rattle.terms.specs.declared.Label.{Label}
use Rattle.terms.specs.Labels.{byte_of}
use Rattle.words.specs.Numbers.{big_endian, written, numbers_of, number_at}
use Rattle.words.specs.Runs.{same}
use Rattle.words.proofs.BigEndian.{bytes_part}
use Rattle.words.proofs.Same.{same_true}
use Rattle.words.proofs.Back.{big_endian_number_at, written_numbers_of}
use Rattle.sheet_format.specs.declared.trailer.Trailer.{Trailer}
use Rattle.sheet_format.specs.Forms.{Form}
use Rattle.sheet_format.specs.Trailer.{fields, trailer_for, trailer_in}
use Rattle.sheet_format.specs.Sheets.{checked, with_check, sealed, sheet_of}
use Rattle.sheet_format.specs.Clean.{trailer_bytes, trailer_of, sheet_in, body_in, list_in, has_trailer}
use Rattle.sheet_format.proofs.CheckWord.{checked_word}
use Rattle.sheet_format.proofs.Lent.{right_facts, there}
use Rattle.sheet_format.proofs.Cleanly.{Clean, length_list}

-- the first bytes from a place on, and those after them
cut : (place width rest : ℕ) (l : List ℕ) → take (width + rest) (drop place l) ≡ take width (drop place l) ++ take rest (drop (place + width) l)
cut place width rest l = take-add width rest (drop place l) ∙ rw drop-drop

-- a marked trailer's bytes are those of the fields that stand in it
fields_back : (mark l : List ℕ) → Bytes l → 32 ≤ length l → same mark (take 4 l) ≡ true → fields mark (trailer_in l) ≡ take 28 l
unfolding fields trailer_in written
fields_back mark l h long marked =
    let signs : take 4 (drop 4 l) ≡ get_or l 4 0 ∷ get_or l 5 0 ∷ get_or l 6 0 ∷ get_or l 7 0 ∷ [] =
    rw (drop-cons l 4 0 (omega arith), drop-cons l 5 0 (omega arith), drop-cons l 6 0 (omega arith), drop-cons l 7 0 (omega arith)) in
    let sizes : take 20 (drop 8 l) ≡ take 4 (drop 8 l) ++ (take 4 (drop 12 l) ++ (take 4 (drop 16 l) ++ (take 4 (drop 20 l) ++ (take 4 (drop 24 l) ++ [])))) =
    cut 8 4 16 l ∙ rw (cut 12 4 12 l, cut 16 4 8 l, cut 20 4 4 l, append-nil) in
    let whole : take 28 l ≡ mark ++ ((get_or l 4 0 ∷ get_or l 5 0 ∷ get_or l 6 0 ∷ get_or l 7 0 ∷ []) ++ take 20 (drop 8 l)) =
    cut 0 4 24 l ∙ rw (← (same_true mark (take 4 l) marked), cut 4 4 20 l, signs) in
    rw (whole, sizes, word 8 (lit< tt), word 12 (lit< tt), word 16 (lit< tt), word 20 (lit< tt), word 24 (lit< tt))
  where
    word : (place : ℕ) → place < 28 → big_endian 4 (number_at place 4 l) ≡ take 4 (drop place l)
    word place within = big_endian_number_at place 4 l h (omega arith)

module _ (form : Form) where
  -- checked bytes are their front with its check word
  checked_made : (sheet : List ℕ) (n : ℕ) → Bytes sheet → length sheet ≡ n + 4 → checked form sheet ≡ true → sheet ≡ with_check form (take n sheet)
  unfolding with_check
  checked_made sheet n h long ok =
      let word : big_endian 4 (number_at n 4 sheet) ≡ drop n sheet =
      big_endian_number_at n 4 sheet h (omega arith) ∙ take_all 4 (drop n sheet) (rw length-drop (omega arith)) in
      rw (← (checked_word form sheet n long ok), word) (sym (take-append-drop n sheet))

  -- marked and checked bytes of a sheet's size are a body, the fields that stand in them, and their check word
  sheet_back : (sheet : List ℕ) (n : ℕ) → Bytes sheet → length sheet ≡ 8 * n + 32 → same form.mark (take 4 (drop (8 * n) sheet)) ≡ true → checked form sheet ≡ true
      → sheet ≡ with_check form (written 8 (numbers_of 8 (take (8 * n) sheet)) ++ fields form.mark (trailer_in (drop (8 * n) sheet)))
  sheet_back sheet n h long marked ok =
      let body : written 8 (numbers_of 8 (take (8 * n) sheet)) ≡ take (8 * n) sheet =
      written_numbers_of 8 (lit< tt) n _ (bytes_part sheet 0 (8 * n) h) (length-take-le (8 * n) sheet (omega arith)) in
      let trailer : fields form.mark (trailer_in (drop (8 * n) sheet)) ≡ take 28 (drop (8 * n) sheet) =
      fields_back form.mark (drop (8 * n) sheet) (bytes_drop (8 * n) sheet h) (rw length-drop (omega arith)) marked in
      checked_made sheet (8 * n + 28) h (omega arith) ok ∙ rw (body, trailer, take-add (8 * n) 28 sheet)

  module _ (bytes : List ℕ) (h : Bytes bytes) (asked : Label) (a : Clean form bytes) (label : (trailer_of bytes).label ≡ byte_of asked) where
    -- the trailer of what is accepted is the one that the writer makes
    trailer_made : trailer_of bytes ≡ trailer_for (trailer_of bytes).settings asked (trailer_of bytes).count
    unfolding trailer_for
    trailer_made =
        let r = right_facts a.right in
        λ i. record {
          label = label i;
          settings = (trailer_of bytes).settings;
          six = r.six i;
          seven = r.seven i;
          count = (trailer_of bytes).count;
          distance = r.distance i;
        }

    pub canonical : sheet_in bytes ≡ sheet_of form (trailer_of bytes).settings asked (list_in bytes)
    unfolding sheet_of sealed sheet_in body_in list_in has_trailer trailer_bytes trailer_of
    canonical =
        let t = trailer_of bytes in
        let r = right_facts a.right in
        let marked = there bytes form.mark a.present in
        let sheet = drop (length bytes - 32 - t.distance) bytes in
        let long : length sheet ≡ 8 * t.count + 32 = rw length-drop (omega (arith, marked.0, r.distance, r.body)) in
        let place : length bytes - 32 - t.distance + 8 * t.count ≡ length bytes - 32 = omega (arith, r.distance, r.body) in
        let last : drop (8 * t.count) sheet ≡ trailer_bytes bytes = rw (drop-drop, place) in
        let body : list_in bytes ≡ numbers_of 8 (take (8 * t.count) sheet) = ap (λ (k : ℕ). numbers_of 8 (take k sheet)) r.distance in
        let counted : length (list_in bytes) ≡ t.count = length_list form bytes a in
        let trailer : trailer_in (drop (8 * t.count) sheet) ≡ trailer_for t.settings asked (length (list_in bytes)) =
        ap trailer_in last ∙ trailer_made ∙ ap (trailer_for t.settings asked) (sym counted) in
        sheet_back sheet t.count (bytes_drop (length bytes - 32 - t.distance) bytes h) long (rw last marked.1) a.sound
        ∙ ap₂ (λ (l : List ℕ) (x : Trailer). with_check form (written 8 l ++ fields form.mark x)) (sym body) trailer
