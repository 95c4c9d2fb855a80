-- The segments of a log follow one another from 0 to its end.
use Prim.Native.Nat.{ℕ, suc, ◌+◌, ◌-◌, ◌*◌, ◌/◌, ◌%◌, ◌^◌, ◌≤◌, ◌<◌, min}
use mathlib.Core.Path.{◌≡◌, sym, ap, ◌∙◌}
use native.Mathlib.Nat.{add-zero, mul-le-mul_right, le-div_iff_mul-le, lt-div-mul-add, div-add-mod', div-eq_of_lt-le, mod-lt, suc-mul, zero-mul}
use native.Mathlib.Numerals.{add-one}
use native.Mathlib.Omega.{arith}
use mathlib.Core.List.{List}
use lib.ListN.{length, take, drop, length-take, length-drop}
use mathlib.Core.Bool.{true}
use lib.Dec.{leb}
use borrow.Author.Tests.{leb-true, leb-false, le-leb, lt-leb}
use Rattle.laws.proofs.Cases.{by_lt, by_test, both_true}
use Rattle.laws.proofs.Slices.{part_lent}
use Rattle.board_bays.specs.Bays.{bay_of}
use Rattle.board_bays.specs.Segments.{segments, segment_start, segment_end, size_in_range, shape_fits, board_fits, There}

-- what a shape that fits says
pub sizes : (size width : ℕ) → shape_fits size width ≡ true → (64 ≤ size) × (size ≤ 16_777_216) × (2 ≤ width)
unfolding shape_fits size_in_range
sizes size width t =
    let a = both_true t in
    let b = both_true a.0 in
    (leb-true _ _ b.0, leb-true _ _ b.1, leb-true _ _ a.1)

-- a board as long as its bays, compared by dividing
pub enough_is : (width numbers count given : ℕ) → 2 ≤ width → given ≡ count → leb given (numbers / width) ≡ leb (count * width) numbers
enough_is width numbers count given wide e =
    let same = le-div_iff_mul-le {k = width} {x = count} {y = numbers} (omega arith) in
    by_test (leb (count * width) numbers)
    (λ t. le-leb _ _ (rw e (same.1 (leb-true _ _ t))) ∙ sym t)
    (λ f. lt-leb _ _ (by_lt (numbers / width) given (λ k. k) (λ k. absurd (omega (arith, leb-false _ _ f, same.0 (rw e at k))))) ∙ sym f)

-- what a board that fits says
pub record BoardShape (n size width numbers : ℕ) : Type 0 where
  pub large : 64 ≤ size
  pub bounded : size ≤ 2 ^ 24
  pub wide : 2 ≤ width
  pub enough : segments n size * width ≤ numbers

pub board_shape : (n size width numbers : ℕ) → board_fits n size width numbers ≡ true → BoardShape n size width numbers
unfolding board_fits
board_shape n size width numbers t =
    let all = both_true t in
    let shape = sizes size width all.0 in
    record { large = shape.0; bounded = shape.1; wide = shape.2; enough = leb-true _ _ all.1 }

-- bay i lies within the board
pub bay_inside : (k width i numbers : ℕ) → i < k → k * width ≤ numbers → i * width + width ≤ numbers
bay_inside k width i numbers h enough = omega (arith, mul-le-mul_right width h, suc-mul i width)

pub bay_within : {n size width numbers : ℕ} → BoardShape n size width numbers → (i count : ℕ) → count ≡ segments n size → i < count
    → i * width + width ≤ numbers
bay_within {n} {size} {width} {numbers} shape i count e h = bay_inside (segments n size) width i numbers (omega arith) shape.enough

-- where the segments before segment i end
unfoldable pub reach : (n size i : ℕ) → ℕ
reach n size i = min (i * size) n

pub reach_within : (n size i : ℕ) → reach n size i ≤ n
unfolding reach
reach_within n size i = omega arith

module _ (n size : ℕ) (positive : 0 < size) where
  pub starts : (i : ℕ) → i < segments n size → segment_start size i < n
  unfolding segments segment_start
  starts i h = let below : suc i * size ≤ n + (size - 1) = (le-div_iff_mul-le positive).0 h in omega (arith, suc-mul i size)

  -- the same as the code multiplies
  pub begins_below : (i : ℕ) → i < segments n size → i * size < n
  unfolding segment_start
  begins_below i h = starts i h

  pub from_reach : (i : ℕ) → i < segments n size → segment_start size i ≡ reach n size i
  unfolding segment_start reach
  from_reach i h = let below : i * size < n = starts i h in omega arith

  pub to_reach : (i : ℕ) → segment_end n size i ≡ reach n size (suc i)
  unfolding segment_end reach
  to_reach i = ap (λ x. min x n) (sym (suc-mul i size))

  pub reach_none : reach n size 0 ≡ 0
  unfolding reach
  reach_none = omega (arith, zero-mul size)

  pub reach_all : reach n size (segments n size) ≡ n
  unfolding reach segments
  reach_all = let over : n + (size - 1) < (n + (size - 1)) / size * size + size = lt-div-mul-add positive in omega arith

  -- a segment is not empty, and lies within the log
  pub spans : (i : ℕ) → i < segments n size → (segment_start size i < segment_end n size i) × (segment_end n size i ≤ n)
  unfolding segment_start segment_end
  spans i h = let below : i * size < n = starts i h in omega arith

  one_times_more : (k : ℕ) → (k + 1) * size ≡ k * size + size
  one_times_more k = rw add-one (suc-mul k size)

  -- rounded up, as the library rounds
  pub rounded_up : n / size + min 1 (n % size) ≡ segments n size
  unfolding segments
  rounded_up =
      let parts = div-add-mod' n size in
      let part : n % size < size = mod-lt n positive in
      by_lt 0 (n % size)
      (λ some. let one : min 1 (n % size) ≡ 1 = omega arith in
      rw one (sym (div-eq_of_lt-le size (omega (arith, one_times_more (n / size))) (omega (arith, one_times_more (n / size), one_times_more (n / size + 1))))))
      (λ none. let no : min 1 (n % size) ≡ 0 = omega arith in
      rw no (add-zero (n / size) ∙ sym (div-eq_of_lt-le size (omega arith) (omega (arith, one_times_more (n / size))))))

-- a segment that is there begins in the log
pub begins_in : {n size i : ℕ} → There n size i → segment_start size i < n
begins_in {n} {size} {i} there = let positive : 0 < size = omega (arith, there.large) in starts n size positive i there.there

-- bay i as the code lends it
pub bay_lent : (width i : ℕ) (board : List ℕ) → take (i * width + width - i * width) (drop (i * width) board) ≡ bay_of width i board
unfolding bay_of
bay_lent width i board = part_lent board (i * width) width

-- which has all its numbers
pub length_bay : (width i : ℕ) (board : List ℕ) → i * width + width ≤ length board → length (bay_of width i board) ≡ width
unfolding bay_of
length_bay width i board h = rw (length-take, length-drop) (omega arith)
