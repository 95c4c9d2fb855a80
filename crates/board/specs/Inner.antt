-- What only an inner function cites: a record put into a bay of its own, whose segment is there.
use Rattle.std.specs.Prelude.{ℕ, ◌+◌, [], ◌∷◌, length, Ok, Err}
use Rattle.terms.specs.Answers.{Answer}
use Rattle.terms.specs.Rows.{verdict, ruled}
use Rattle.board_bays.specs.Bays.{Record}
use Rattle.board.specs.Recording.{too_long}

-- 2 plus the offsets, or row 6
unfoldable pub filled_answer : (r : Record) (width : ℕ) → Answer
filled_answer r width = ruled (verdict (too_long r width ∷ [])) Err (Ok (2 + length r.offsets))
