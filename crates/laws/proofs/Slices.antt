-- Parts of a slice, as the code lends them.
use Prim.Native.Nat.{ℕ, ◌+◌, ◌-◌, ◌≤◌}
use mathlib.Core.Path.{◌≡◌, ap, ◌∙◌}
use mathlib.Core.List.{List}
use native.Mathlib.Omega.{arith}
use lib.ListN.{length, take, drop, length-drop}
use lib.Seq.{take_all, take-add, take-take, drop-drop, drop_at, length-take-le}

-- a slice from place k on is all that follows
pub rest_from : (l : List ℕ) (k : ℕ) → take (length l - k) (drop k l) ≡ drop k l
rest_from l k = take_all (length l - k) (drop k l) (rw length-drop (omega arith))

-- so many entries from a place on
pub part_lent : (l : List ℕ) (a w : ℕ) → take (a + w - a) (drop a l) ≡ take w (drop a l)
part_lent l a w = let same : a + w - a ≡ w = omega arith in ap (λ (k : ℕ). take k (drop a l)) same

-- a part of a part
pub part_of_part : (l : List ℕ) (a n j w : ℕ) → a + n ≤ length l → j + w ≤ n → take w (drop j (take n (drop a l))) ≡ take w (drop (a + j) l)
part_of_part l a n j w fits inside =
    let rest : List ℕ = drop a l in
    let whole : n ≡ j + (n - j) = omega arith in
    let front : length (take j rest) ≡ j = length-take-le j rest (rw length-drop (omega arith)) in
    ap (λ (k : ℕ). take w (drop j (take k rest))) whole
    ∙ ap (λ (x : List ℕ). take w (drop j x)) (take-add j (n - j) rest)
    ∙ ap (take w) (drop_at (take j rest) (take (n - j) (drop j rest)) j front)
    ∙ take-take w (n - j) (drop j rest) (omega arith)
    ∙ ap (take w) (drop-drop j a l)
