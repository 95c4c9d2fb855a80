-- Writing a lent list entry by entry: nothing written yet, one entry more, the length, all written; and one part after another.
use mathlib.Core.Path.{◌≡◌, refl, ◌∙◌}
use mathlib.Core.List.{List, [], ◌∷◌, ◌++◌, append_assoc, append-nil}
use Prim.Native.Nat.{ℕ, ◌+◌, ◌≤◌, ◌<◌}
use native.Mathlib.Omega.{arith}
use native.Mathlib.Numerals.{add-one}
use lib.ListN.{length, take, drop, set, get_or, length-append, length-drop, drop_of_length-le}
use lib.Seq.{take-suc, drop-cons, set-append_seam, length-take-le, drop-drop, take-append_seam, drop-append_seam}
use Rattle.laws.specs.Over.{over, over_from}

pub over_none : (b : List ℕ) → over [] b ≡ b
unfolding over
over_none b = refl

pub over_more : (l b : List ℕ) (x : ℕ) → length l < length b → set (over l b) (length l) x ≡ over (l ++ (x ∷ [])) b
unfolding over
over_more l b x h = rw (drop-cons b (length l) 0 h, set-append_seam, length-append, add-one, append_assoc)

-- one entry more of a list that is being copied
pub over_next : (i : ℕ) (l b : List ℕ) → i < length l → i < length b → set (over (take i l) b) i (get_or l i 0) ≡ over (take (i + 1) l) b
over_next i l b h room =
    let size : length (take i l) ≡ i = length-take-le i l (omega arith) in
    rw size at (over_more (take i l) b (get_or l i 0) (rw size room)) ∙ rw (add-one, take-suc l i 0 h)

pub length_over : (l b : List ℕ) → length l ≤ length b → length (over l b) ≡ length b
unfolding over
length_over l b h = simp (length-append, length-drop) (omega arith)

pub over_full : (l b : List ℕ) → length b ≡ length l → over l b ≡ l
unfolding over
over_full l b e = rw (drop_of_length-le b {i = length l} (omega arith)) (append-nil l)

-- what was written is there
pub take_over : (l b : List ℕ) → take (length l) (over l b) ≡ l
unfolding over
take_over l b = take-append_seam l (drop (length l) b)

-- what is written after l is written with l
pub over_from_over : (l m b : List ℕ) → over_from (length l) m (over l b) ≡ over (l ++ m) b
unfolding over over_from
over_from_over l m b = rw (take-append_seam, drop-append_seam, drop-drop, length-append, append_assoc)
