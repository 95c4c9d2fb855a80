-- Big-endian numbers there and back, over any width: numbers that are written are read again, and bytes that are read are written again.
use mathlib.Core.Path.{◌≡◌, refl, sym, ap, ap₂, ◌∙◌}
use mathlib.Core.List.{List, [], ◌∷◌, ◌++◌}
use Prim.Native.Nat.{ℕ, zero, suc, ◌+◌, ◌-◌, ◌*◌, ◌/◌, ◌%◌, ◌^◌, ◌≤◌, ◌<◌}
use native.Mathlib.Omega.{arith}
use native.Mathlib.Nat.{mul-suc, mul-zero, mul_assoc, mod-eq_of_lt, mul-add-div_right, mul-add-mod_self_right, le_refl, le_of_eq, le_of_suc-le, mod-lt, add_comm, mul-div_cancel_left}
use lib.Pow.{pow_pos, pow-add, high, are_bytes}
use mathlib.Core.Bool.{true}
use borrow.Author.Tests.{ltb-true}
use lib.Dec.{lit<, ltb}
use lib.ListN.{length, take, drop, get_or, length-drop, take-append-drop}
use lib.Seq.{take_at, take_all, take-add, drop_at, drop-nil, drop-cons, drop-append-add, length-take-le}
use Rattle.laws.specs.Bytes.{Bytes}
use Rattle.laws.proofs.Bytes.{number_lt, bytes_drop}
use Rattle.laws.proofs.Cases.{both_true}
use Rattle.words.specs.Numbers.{big_endian, number, written, numbers, numbers_of, number_at}
use Rattle.words.proofs.BigEndian.{length-big_endian, length_written, length-numbers, number_big_endian, numbers_more, numbers_front, number_at_lt, bytes_part}

-- every number of a list has a width
abbrev pub Wide : ℕ → List ℕ → Type 0
Wide width l = (i : ℕ) → get_or l i 0 < 2 ^ (8 * width)

-- numbers that are written are read again
numbers_written : (width : ℕ) (l : List ℕ) → Wide width l → numbers width (length l) (written width l) ≡ l
unfolding numbers written
numbers_written width [] h = refl
numbers_written width (n ∷ l) h =
    let size = length-big_endian width n in
    rw (take_at (big_endian width n) (written width l) width size, drop_at (big_endian width n) (written width l) width size, number_big_endian, mod-eq_of_lt (h 0))
    (ap (λ (r : List ℕ). n ∷ r) (numbers_written width l (λ i. h (suc i))))

-- what is above a byte does not show in it
byte_low : (width h k n : ℕ) → width < k → (h * 2 ^ (8 * k) + n) / 2 ^ (8 * width) % 256 ≡ n / 2 ^ (8 * width) % 256
byte_low width h k n le =
    let above : 2 ^ (8 * k) ≡ 2 ^ (8 * (k - suc width)) * 256 * 2 ^ (8 * width) =
    ap (λ (e : ℕ). 2 ^ e) (omega arith) ∙ pow-add 2 (8 * (k - suc width) + 8) (8 * width) ∙ rw (pow-add 2 (8 * (k - suc width)) 8) in
    rw (above, ← (mul_assoc h (2 ^ (8 * (k - suc width)) * 256) (2 ^ (8 * width))), mul-add-div_right (pow_pos (8 * width)), ← (mul_assoc h (2 ^ (8 * (k - suc width))) 256))
    (mul-add-mod_self_right (h * 2 ^ (8 * (k - suc width))) 256 (n / 2 ^ (8 * width)))

-- of a number only its low bytes are written
big_endian_low : (width h k n : ℕ) → width ≤ k → big_endian width (h * 2 ^ (8 * k) + n) ≡ big_endian width n
unfolding big_endian
big_endian_low zero h k n le = refl
big_endian_low (suc width) h k n le =
    ap₂ (λ (x : ℕ) (r : List ℕ). x ∷ r) (byte_low width h k n le) (big_endian_low width h k n (le_of_suc-le le))

-- bytes that are read are written again
pub big_endian_number : (l : List ℕ) → Bytes l → big_endian (length l) (number l) ≡ l
unfolding big_endian number
big_endian_number [] h = refl
big_endian_number (b ∷ l) h =
    let first : (b * 2 ^ (8 * length l) + number l) / 2 ^ (8 * length l) % 256 ≡ b =
    rw (high b (8 * length l) (number_lt l (λ i. h (suc i)))) (mod-eq_of_lt (h 0)) in
    let others : big_endian (length l) (b * 2 ^ (8 * length l) + number l) ≡ l =
    big_endian_low (length l) b (length l) (number l) (le_refl _) ∙ big_endian_number l (λ i. h (suc i)) in
    ap₂ (λ (x : ℕ) (r : List ℕ). x ∷ r) first others

-- the same of a part of bytes
pub big_endian_number_at : (place width : ℕ) (bytes : List ℕ) → Bytes bytes → place + width ≤ length bytes
    → big_endian width (number_at place width bytes) ≡ take width (drop place bytes)
unfolding number_at
big_endian_number_at place width bytes h fits =
    let size : length (take width (drop place bytes)) ≡ width = length-take-le width (drop place bytes) (rw length-drop (omega arith)) in
    rw size at (big_endian_number (take width (drop place bytes)) (bytes_part bytes place width h))

-- and of numbers of one width
written_numbers : (width count : ℕ) (bytes : List ℕ) → Bytes bytes → width * count ≤ length bytes → written width (numbers width count bytes) ≡ take (width * count) bytes
unfolding numbers written number_at
written_numbers width zero bytes h fits = rw mul-zero
written_numbers width (suc count) bytes h fits =
    let fits' : width * count + width ≤ length bytes = rw mul-suc at fits in
    let first : big_endian width (number (take width bytes)) ≡ take width bytes = big_endian_number_at 0 width bytes h (omega arith) in
    let others : written width (numbers width count (drop width bytes)) ≡ take (width * count) (drop width bytes) =
    written_numbers width count (drop width bytes) (bytes_drop width bytes h) (rw length-drop (omega arith)) in
    rw (first, others, mul-suc, add_comm (width * count) width) (sym (take-add width (width * count) bytes))

-- what is written is bytes
pub bytes_test : (l : List ℕ) → are_bytes l ≡ true → Bytes l
bytes_test [] e i = lit< tt
bytes_test (x ∷ l) e zero = ltb-true x 256 (both_true e).0
bytes_test (x ∷ l) e (suc i) = bytes_test l (both_true {a = ltb x 256} e).1 i

pub bytes_append : (l m : List ℕ) → Bytes l → Bytes m → Bytes (l ++ m)
bytes_append [] m hl hm i = hm i
bytes_append (x ∷ l) m hl hm zero = hl 0
bytes_append (x ∷ l) m hl hm (suc i) = bytes_append l m (λ j. hl (suc j)) hm i

pub bytes_big_endian : (width n : ℕ) → Bytes (big_endian width n)
unfolding big_endian
bytes_big_endian zero n i = lit< tt
bytes_big_endian (suc width) n zero = mod-lt (n / 2 ^ (8 * width)) (lit< tt)
bytes_big_endian (suc width) n (suc i) = bytes_big_endian width n i

pub bytes_written : (width : ℕ) (l : List ℕ) → Bytes (written width l)
unfolding written
bytes_written width [] i = lit< tt
bytes_written width (n ∷ l) i = bytes_append (big_endian width n) (written width l) (bytes_big_endian width n) (bytes_written width l) i

-- numbers from a place on are written from that place on
pub drop_written : (width j : ℕ) (l : List ℕ) → drop (width * j) (written width l) ≡ written width (drop j l)
unfolding written
drop_written width zero l = rw mul-zero
drop_written width (suc j) [] = drop-nil (width * suc j)
drop_written width (suc j) (n ∷ l) =
    let size = length-big_endian width n in
    let past : drop (width + width * j) (big_endian width n ++ written width l) ≡ drop (width * j) (written width l) =
    rw size at (drop-append-add (big_endian width n) (written width l) (width * j)) in
    rw (mul-suc, add_comm (width * j) width, past) (drop_written width j l)

-- the number that is written at a place is read there
pub number_at_written : (width j : ℕ) (l : List ℕ) → j < length l → Wide width l → number_at (width * j) width (written width l) ≡ get_or l j 0
unfolding number_at written
number_at_written width j l h wide =
    rw (drop_written width j l, drop-cons l j 0 h, take_at (big_endian width (get_or l j 0)) (written width (drop (suc j) l)) width (length-big_endian width (get_or l j 0)), number_big_endian)
    (mod-eq_of_lt (wide j))

-- numbers that are read from bytes have their width
numbers_wide : (width count : ℕ) (bytes : List ℕ) → Bytes bytes → width * count ≤ length bytes → Wide width (numbers width count bytes)
unfolding numbers number_at
numbers_wide width zero bytes h fits i = pow_pos (8 * width)
numbers_wide width (suc count) bytes h fits zero = number_at_lt bytes 0 width (omega (arith, rw mul-suc at fits)) h
numbers_wide width (suc count) bytes h fits (suc i) =
    numbers_wide width count (drop width bytes) (bytes_drop width bytes h) (rw length-drop (omega (arith, rw mul-suc at fits))) i

-- all numbers of bytes that hold so many: how many there are, one more, and each way
module _ (width : ℕ) (some : 0 < width) where
  numbers_of_is : (count : ℕ) (bytes : List ℕ) → length bytes ≡ width * count → numbers_of width bytes ≡ numbers width count bytes
  unfolding numbers_of
  numbers_of_is count bytes e = rw (e, mul-div_cancel_left count some)

  pub length-numbers_of : (count : ℕ) (bytes : List ℕ) → length bytes ≡ width * count → length (numbers_of width bytes) ≡ count
  length-numbers_of count bytes e = rw (numbers_of_is count bytes e) (length-numbers width count bytes)

  pub numbers_of_more : (count : ℕ) (bytes : List ℕ) → length bytes ≡ width * suc count
      → numbers_of width bytes ≡ numbers_of width (take (width * count) bytes) ++ (number_at (width * count) width bytes ∷ [])
  numbers_of_more count bytes e =
      let front = take (width * count) bytes in
      let size : length front ≡ width * count = length-take-le (width * count) bytes (omega (arith, e ∙ mul-suc width count)) in
      let firsts : numbers width count bytes ≡ numbers width count front =
      rw (take-append-drop (width * count) bytes) at (numbers_front width count front (drop (width * count) bytes) (le_of_eq (sym size))) in
      rw (numbers_of_is (suc count) bytes e, numbers_more, firsts, numbers_of_is count front size)

  pub numbers_of_written : (l : List ℕ) → Wide width l → numbers_of width (written width l) ≡ l
  numbers_of_written l wide = rw (numbers_of_is (length l) (written width l) (length_written width l)) (numbers_written width l wide)

  module _ (count : ℕ) (bytes : List ℕ) (h : Bytes bytes) (e : length bytes ≡ width * count) where
    pub written_numbers_of : written width (numbers_of width bytes) ≡ bytes
    written_numbers_of =
        rw (numbers_of_is count bytes e) (written_numbers width count bytes h (le_of_eq (sym e)) ∙ take_all (width * count) bytes (le_of_eq e))

    pub numbers_of_wide : Wide width (numbers_of width bytes)
    numbers_of_wide = rw (numbers_of_is count bytes e) (numbers_wide width count bytes h (le_of_eq (sym e)))
