-- Laws of big-endian numbers, over any width: lengths, one byte or one number more, and the round trip.
use mathlib.Core.Path.{◌≡◌, refl, sym, ap, ◌∙◌}
use mathlib.Core.List.{List, [], ◌∷◌, ◌++◌, append_assoc, append-nil}
use Prim.Native.Nat.{ℕ, zero, suc, ◌+◌, ◌-◌, ◌*◌, ◌/◌, ◌%◌, ◌^◌, ◌≤◌, ◌<◌}
use native.Mathlib.Omega.{arith}
use native.Mathlib.Numerals.{add-one}
use native.Mathlib.Nat.{add_comm, mul-suc, mul-zero, mod-one, lt_of_lt_of_le, mul-le-mul_left}
use lib.Pow.{pow_mono, mod-pow-add}
use lib.ListN.{length, take, drop, get_or, set, length-append, length-drop}
use lib.Seq.{take-append-le, drop-append-le, take-suc, length-take-le, drop-drop}
use lib.Arith.{digits_lt}
use Rattle.std.specs.Int.{w64, from_be_bytes}
use Rattle.laws.specs.Bytes.{Bytes}
use Rattle.laws.proofs.Bytes.{byte_power, number_lt, number_snoc, bytes_take, bytes_drop}
use Rattle.laws.proofs.Writing.{over_next, over_from_over}
use Rattle.laws.specs.Over.{over, over_from}
use Rattle.words.specs.Numbers.{big_endian, number, written, numbers, number_at}

pub length-big_endian : (width n : ℕ) → length (big_endian width n) ≡ width
unfolding big_endian
length-big_endian zero n = refl
length-big_endian (suc width) n = ap suc (length-big_endian width n)

-- the byte at a place is the number shifted by the bytes after it
pub get_d_big_endian : (width n i : ℕ) → i < width → get_or (big_endian width n) i 0 ≡ n / 2 ^ (8 * (width - 1 - i)) % 256
unfolding big_endian
get_d_big_endian zero n i h = absurd (omega arith)
get_d_big_endian (suc width) n zero h = ap (λ (k : ℕ). n / 2 ^ (8 * k) % 256) (omega arith)
get_d_big_endian (suc width) n (suc i) h =
    let h' : i < width = omega arith in
    get_d_big_endian width n i h' ∙ ap (λ (k : ℕ). n / 2 ^ (8 * k) % 256) (omega arith)

-- the round trip: a number's low bytes stand for the number modulo their range
pub number_big_endian : (width n : ℕ) → number (big_endian width n) ≡ n % 2 ^ (8 * width)
unfolding big_endian number
number_big_endian zero n = sym (mod-one n)
number_big_endian (suc width) n =
    rw (length-big_endian width n, number_big_endian width n)
    (sym (mod-pow-add n 8 (8 * width)) ∙ ap (λ (k : ℕ). n % 2 ^ k) (omega arith))

-- a part of a list of bytes is one
pub bytes_part : (l : List ℕ) (place width : ℕ) → Bytes l → Bytes (take width (drop place l))
bytes_part l place width h = bytes_take width (drop place l) (bytes_drop place l h)

pub number_at_lt : (l : List ℕ) (place width : ℕ) → place + width ≤ length l → Bytes l → number_at place width l < 2 ^ (8 * width)
unfolding number_at
number_at_lt l place width fits h =
    let size : length (take width (drop place l)) ≡ width = length-take-le width (drop place l) (rw length-drop (omega arith)) in
    rw size at (number_lt (take width (drop place l)) (bytes_part l place width h))

-- the number of one byte more
pub number_more : (l : List ℕ) (i : ℕ) → i < length l → number (take (i + 1) l) ≡ number (take i l) * 256 + get_or l i 0
number_more l i h = rw (add-one, take-suc l i 0 h, number_snoc)

-- a byte more keeps a number within its range, and eight bytes within 64 bits
pub byte_more : {n b : ℕ} (k : ℕ) → n < 2 ^ (8 * k) → b < 256 → n * 256 + b < 2 ^ (8 * (k + 1))
byte_more {n} {b} k hn hb = rw (add-one, byte_power) (digits_lt hn hb)

pub within_64 : {n : ℕ} (k : ℕ) → k ≤ 8 → n < 2 ^ (8 * k) → n < 2 ^ 64
within_64 k h hn = lt_of_lt_of_le hn (pow_mono {i = 8 * k} {j = 64} (omega arith))

-- one byte more of a number that is being written
pub byte_written : (n i : ℕ) (bytes : List ℕ) → i < length bytes
    → set (over (take i (big_endian (length bytes) n)) bytes) i (n / 2 ^ (8 * (length bytes - 1 - i)) % 256) ≡ over (take (i + 1) (big_endian (length bytes) n)) bytes
byte_written n i bytes h =
    rw (← get_d_big_endian (length bytes) n i h) (over_next i (big_endian (length bytes) n) bytes (rw length-big_endian h) h)

pub length_written : (width : ℕ) (list : List ℕ) → length (written width list) ≡ width * length list
unfolding written
length_written width [] = rw mul-zero
length_written width (n ∷ list) = rw (length-append, length-big_endian, length_written width list, mul-suc) (add_comm width (width * length list))

pub written_append : (width : ℕ) (l m : List ℕ) → written width (l ++ m) ≡ written width l ++ written width m
unfolding written
written_append width [] m = refl
written_append width (n ∷ l) m = rw (written_append width l m, append_assoc)

-- one number more is written
pub written_more : (width i : ℕ) (list : List ℕ) → i < length list
    → written width (take (i + 1) list) ≡ written width (take i list) ++ big_endian width (get_or list i 0)
unfolding written
written_more width i list h = rw (add-one, take-suc list i 0 h, written_append) (ap (λ (r : List ℕ). written width (take i list) ++ r) (append-nil _))

-- the first numbers of a list, and one more, are within all of it
module _ (width i : ℕ) (list : List ℕ) (h : i < length list) where
  pub length_written_front : length (written width (take i list)) ≡ width * i
  length_written_front = length_written width (take i list) ∙ rw (length-take-le i list (omega arith)) refl

  pub written_room : width * i + width ≤ length (written width list)
  written_room =
      let whole : width * (i + 1) ≤ width * length list = mul-le-mul_left width (omega arith) in
      rw length_written (rw (add-one, mul-suc) at whole)

  -- a number written after the first ones is written with them
  pub written_joined : (b : List ℕ) → over_from (width * i) (big_endian width (get_or list i 0)) (over (written width (take i list)) b) ≡ over (written width (take (i + 1) list)) b
  written_joined b =
      rw (← length_written_front, written_more width i list h) (over_from_over (written width (take i list)) (big_endian width (get_or list i 0)) b)

-- one number more
pub numbers_more : (width count : ℕ) (bytes : List ℕ) → numbers width (suc count) bytes ≡ numbers width count bytes ++ (number_at (width * count) width bytes ∷ [])
unfolding numbers number_at
numbers_more width zero bytes = rw mul-zero
numbers_more width (suc count) bytes =
    ap (λ (r : List ℕ). number (take width bytes) ∷ r)
    (numbers_more width count (drop width bytes) ∙ rw (drop-drop, mul-suc, add_comm width (width * count)))

pub length-numbers : (width count : ℕ) (bytes : List ℕ) → length (numbers width count bytes) ≡ count
unfolding numbers
length-numbers width zero bytes = refl
length-numbers width (suc count) bytes = ap suc (length-numbers width count (drop width bytes))

-- the first numbers stand in the first bytes
pub numbers_front : (width count : ℕ) (front rest : List ℕ) → width * count ≤ length front → numbers width count (front ++ rest) ≡ numbers width count front
unfolding numbers
numbers_front width zero front rest h = refl
numbers_front width (suc count) front rest h =
    let h' : width * count + width ≤ length front = rw mul-suc at h in
    let within : width ≤ length front = omega arith in
    let left : width * count ≤ length (drop width front) = rw length-drop (omega arith) in
    rw (take-append-le width front rest within, drop-append-le width front rest within)
    (ap (λ (r : List ℕ). number (take width front) ∷ r) (numbers_front width count (drop width front) rest left))

-- eight bytes, each weighed by its place
pub eight_weighed : (bytes : List ℕ) → length bytes ≡ 8 → from_be_bytes w64 bytes ≡ number bytes
unfolding number
eight_weighed [] e = absurd (omega (arith, e))
eight_weighed (_ ∷ []) e = absurd (omega (arith, e))
eight_weighed (_ ∷ _ ∷ []) e = absurd (omega (arith, e))
eight_weighed (_ ∷ _ ∷ _ ∷ []) e = absurd (omega (arith, e))
eight_weighed (_ ∷ _ ∷ _ ∷ _ ∷ []) e = absurd (omega (arith, e))
eight_weighed (_ ∷ _ ∷ _ ∷ _ ∷ _ ∷ []) e = absurd (omega (arith, e))
eight_weighed (_ ∷ _ ∷ _ ∷ _ ∷ _ ∷ _ ∷ []) e = absurd (omega (arith, e))
eight_weighed (_ ∷ _ ∷ _ ∷ _ ∷ _ ∷ _ ∷ _ ∷ []) e = absurd (omega (arith, e))
eight_weighed (_ ∷ _ ∷ _ ∷ _ ∷ _ ∷ _ ∷ _ ∷ _ ∷ []) e = omega arith
eight_weighed (_ ∷ _ ∷ _ ∷ _ ∷ _ ∷ _ ∷ _ ∷ _ ∷ _ ∷ _) e = absurd (omega (arith, e))
