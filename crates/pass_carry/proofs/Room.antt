-- The room for a block's cuts, whatever the carry: from the second on each needs minimum bytes, so floor(L / minimum) + 1 entries are enough.
use Prim.Native.Nat.{ℕ, ◌+◌, ◌*◌, ◌/◌, ◌≤◌, ◌<◌}
use mathlib.Core.List.{List, [], ◌∷◌}
use native.Mathlib.Nat.{suc-mul, zero-mul, le-div_iff_mul-le}
use native.Mathlib.Omega.{arith}
use lib.ListN.{length}
use Rattle.laws.proofs.Cases.{by_test}
use Rattle.terms.specs.Answers.{room_for}
use Rattle.pass_carry.specs.declared.Carry.{Carry}
use Rattle.pass_carry.specs.Carries.{cuts_at, byte_taken, cuts_in}
use Rattle.pass_carry.proofs.OneByte.{long_enough, since_cut, since_on, cuts_cut, cuts_on}

-- the pieces that end in a block lie in it and in the bytes since the last cut
pieces_fit : (block : List ℕ) (c : Carry) → length (cuts_in c block) * c.settings.minimum ≤ c.since + length block
unfolding byte_taken
pieces_fit [] c = unfold cuts_in in omega (arith, zero-mul c.settings.minimum)
pieces_fit (b ∷ bs) c =
    by_test (cuts_at c b)
    (λ e. rw (cuts_cut c b e bs) (omega (arith, long_enough c b e, since_cut c b e, pieces_fit bs (byte_taken c b), suc-mul (length (cuts_in (byte_taken c b) bs)) c.settings.minimum)))
    (λ e. rw (cuts_on c b e bs) (omega (arith, since_on c b e, pieces_fit bs (byte_taken c b))))

-- in a block of at most n bytes
among : (block : List ℕ) (c : Carry) (n : ℕ) → 0 < c.settings.minimum → length block ≤ n → length (cuts_in c block) ≤ n / c.settings.minimum + 1
unfolding byte_taken
among [] c n positive h = unfold cuts_in in omega arith
among (b ∷ bs) c n positive h =
    by_test (cuts_at c b)
    (λ e.
    let few : length (cuts_in (byte_taken c b) bs) ≤ n / c.settings.minimum = (le-div_iff_mul-le positive).1 (omega (arith, since_cut c b e, pieces_fit bs (byte_taken c b))) in
    rw (cuts_cut c b e bs) (omega arith))
    (λ e. rw (cuts_on c b e bs) (among bs (byte_taken c b) n positive (omega arith)))

pub enough_room : (block : List ℕ) (c : Carry) → 0 < c.settings.minimum → length (cuts_in c block) ≤ room_for c.settings.minimum (length block)
enough_room block c positive = among block c (length block) positive (omega arith)
