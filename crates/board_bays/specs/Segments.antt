-- Segments of a log of n bytes, and the board's shape: document 01, "Segments and the board".
use Rattle.std.specs.Prelude.{ℕ, ◌+◌, ◌-◌, ◌*◌, ◌/◌, ◌^◌, ◌≤◌, ◌<◌, min, Bool, ◌&&◌, leb, ltb}

-- a segment size is 64 to 16,777,216
unfoldable pub size_in_range : (size : ℕ) → Bool
size_in_range size = leb 64 size && leb size 16_777_216

-- there are n/S segments, rounded up
unfoldable pub segments : (n size : ℕ) → ℕ
segments n size = (n + (size - 1)) / size

-- segment i covers the offsets above this one
unfoldable pub segment_start : (size i : ℕ) → ℕ
segment_start size i = i * size

-- and up to this one: the smaller of (i + 1) * S and n
unfoldable pub segment_end : (n size i : ℕ) → ℕ
segment_end n size i = min (i * size + size) n

-- R is at least 2
unfoldable pub shape_fits : (size width : ℕ) → Bool
shape_fits size width = size_in_range size && leb 2 width

-- and a board of so many numbers is as long as the bays
unfoldable pub board_fits : (n size width numbers : ℕ) → Bool
board_fits n size width numbers = shape_fits size width && leb (segments n size * width) numbers

-- or there is such a segment
unfoldable pub bay_fits : (n size width i : ℕ) → Bool
bay_fits n size width i = shape_fits size width && ltb i (segments n size)

-- or both
unfoldable pub segment_fits : (n size width i numbers : ℕ) → Bool
segment_fits n size width i numbers = board_fits n size width numbers && ltb i (segments n size)

-- segment i is there, in a log and at a size within their bounds
pub record There (n size i : ℕ) : Type 0 where
  pub large : 64 ≤ size
  pub bounded : size ≤ 2 ^ 24
  pub short : n ≤ 2 ^ 40
  pub there : i < segments n size
