-- What the calls on a board leave and answer: document 01, "Segments and the board" and "Numbers answered".
use Rattle.std.specs.Prelude.{ℕ, ◌+◌, ◌≤◌, ◌≡◌, true, List, length}
use Rattle.laws.specs.Over.{over}
use Rattle.lists.specs.WellFormed.{well_formed, length_of}
use Rattle.terms.specs.declared.Settings.{Settings}
use Rattle.board_bays.specs.Bays.{Record, entries, bay_of}

-- what number 7 asks of S and R, and of the board or the segment
pub record ShapeTold (size width : ℕ) : Type 0 where
  pub at_least : 64 ≤ size
  pub at_most : size ≤ 16_777_216
  pub wide : 2 ≤ width

-- a number is answered where its reason holds, and only there
pub record OnlyWhere (number row : ℕ) (fine : Type 0) : Type 0 where
  pub refused : number ≡ row → fine → ⊥
  pub passed : (number ≡ row → ⊥) → fine

-- recording leaves every other bay of a board as it was, on success too
pub record OthersStay (width i : ℕ) (before after : List ℕ) : Type 0 where
  pub others_stay : (j : ℕ) → (i ≡ j → ⊥) → bay_of width j after ≡ bay_of width j before

-- a bay recorded with success: the answer is 2 plus the offsets, the bay begins with the record, and its entries past it stay
pub record Recorded (r : Record) (before after : List ℕ) (count : ℕ) : Type 0 where
  pub counted : count ≡ 2 + length r.offsets
  pub written : after ≡ over (entries r) before

-- a list of cuts that is well formed and ends at n
pub record EndsAt (settings : Settings) (n : ℕ) (list : List ℕ) : Type 0 where
  pub well-formed : well_formed settings.minimum settings.maximum list ≡ true
  pub ends : length_of list ≡ n
