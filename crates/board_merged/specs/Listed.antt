-- The offsets that a board lists, as marks: what any accepted board's walk goes by.
use Rattle.std.specs.Prelude.{ℕ, ◌-◌, ◌/◌, Bool, List}
use Rattle.board_bays.specs.Bays.{bay_of, record_in, is_listed}

-- offset p is listed on a board, in the bay of its own segment
unfoldable pub listed_on : (size width : ℕ) (board : List ℕ) (p : ℕ) → Bool
listed_on size width board p = is_listed p (record_in (bay_of width ((p - 1) / size) board)).offsets
