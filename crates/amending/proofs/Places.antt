-- Lists read place by place: the entries before one that passes a test, and the last entry.
use Rattle.std.proofs.Common.{◌≡◌, ℕ, suc, ◌-◌, nat_lt, leb, List, [], ◌∷◌, length, get_or, refl, ap, arith, le-ltb, lt-ltb}
use borrow.Author.Tests.{le-leb, lt-leb}
use Rattle.std.specs.List.{take_while}
use Rattle.std.proofs.lemmas.List.Sums.{take_while-cons}
use Rattle.laws.proofs.Cases.{by_lt}
use Rattle.laws.specs.Last.{last_or}
use Rattle.amending.specs.Parts.{until}

-- the entries below an offset, from the front on, are those before the first that is not
pub below_until : (offset : ℕ) (l : List ℕ) → length (take_while (λ x. nat_lt x offset) l) ≡ length (until (leb offset) l)
unfolding until
below_until offset [] = refl
below_until offset (x ∷ l) =
    rw take_while-cons
    (by_lt x offset
    (λ low. rw (lt-ltb x offset low, lt-leb offset x low, until) (ap suc (below_until offset l)))
    (λ high. rw (le-ltb x offset high, le-leb offset x high, until)))

pub last_told : (c : ℕ) (l : List ℕ) → get_or l (length l - 1) c ≡ last_or c l
unfolding last_or
last_told c [] = refl
last_told c (x ∷ []) = refl
last_told c (x ∷ y ∷ l) =
    let place : length (x ∷ y ∷ l) - 1 ≡ suc (length (y ∷ l) - 1) = omega arith in
    rw place (last_told c (y ∷ l))
