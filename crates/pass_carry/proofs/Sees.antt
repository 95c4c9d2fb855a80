-- The marks that a carry sees in a block: offsets whose 48 bytes, of its window and the block, match.
use Prim.Native.Nat.{ℕ, suc, ◌+◌, ◌≤◌, ◌<◌}
use mathlib.Core.Path.{◌≡◌, sym, ap, ◌∙◌}
use mathlib.Core.Bool.{Bool}
use mathlib.Core.List.{List, [], ◌∷◌, ◌++◌, append_assoc}
use native.Mathlib.Omega.{arith}
use lib.ListN.{length, take, drop, length-append, length-drop}
use lib.Seq.{drop-append-le, drop-drop, take-append-le, take_at}
use Rattle.signature.specs.Signatures.{signature_of}
use Rattle.cutting.specs.Marks.{matches}
use Rattle.pass_carry.specs.declared.Carry.{Carry}
use Rattle.pass_carry.specs.Carries.{slid, byte_taken}

pub record Sees (mark : ℕ → Bool) (c : Carry) (block : List ℕ) : Type 0 where
  pub far : 48 ≤ c.settings.minimum
  pub order : c.settings.minimum ≤ c.settings.maximum
  pub whole : length c.window ≡ 48
  pub marks : (i : ℕ) → i < length block → 48 ≤ c.taken + suc i
      → mark (c.taken + suc i) ≡ matches c.settings (signature_of (take 48 (drop (suc i) (c.window ++ block))))

-- the windows of a block's first part lie in that part
pub window_first : (w xs ys : List ℕ) (i : ℕ) → length w ≡ 48 → i ≤ length xs → take 48 (drop i (w ++ (xs ++ ys))) ≡ take 48 (drop i (w ++ xs))
window_first w xs ys i e h =
    let grown : length (w ++ xs) ≡ 48 + length xs = length-append w xs ∙ ap (λ n. n + length xs) e in
    ap (λ l. take 48 (drop i l)) (sym (append_assoc w xs ys))
    ∙ ap (take 48) (drop-append-le i (w ++ xs) ys (omega arith))
    ∙ take-append-le 48 (drop i (w ++ xs)) ys (simp length-drop (omega arith))

pub sees_first : (mark : ℕ → Bool) (c : Carry) (xs ys : List ℕ) → Sees mark c (xs ++ ys) → Sees mark c xs
sees_first mark c xs ys sees =
    record {
      far = sees.far;
      order = sees.order;
      whole = sees.whole;
      marks = λ i h p.
          sees.marks i (omega (arith, length-append xs ys)) p
          ∙ ap (λ l. matches c.settings (signature_of l)) (window_first c.window xs ys (suc i) sees.whole h);
    }

-- a window one byte later
module _ (w : List ℕ) (b : ℕ) (whole : length w ≡ 48) where
  pub length_slid : length (slid w b) ≡ 48
  length_slid = simp (length-append, length-drop) (omega arith)

  module _ (bs : List ℕ) where
    pub slid_on : slid w b ++ bs ≡ drop 1 (w ++ (b ∷ bs))
    slid_on = append_assoc (drop 1 w) (b ∷ []) bs ∙ sym (drop-append-le 1 w (b ∷ bs) (omega arith))

    -- it is the 48 bytes before the block's first offset
    pub first_window : take 48 (drop 1 (w ++ (b ∷ bs))) ≡ slid w b
    first_window = ap (take 48) (sym slid_on) ∙ take_at (slid w b) bs 48 length_slid

    -- what lies past a later offset is the same, seen from one byte on
    pub later_window : (i : ℕ) → drop (suc (suc i)) (w ++ (b ∷ bs)) ≡ drop (suc i) (slid w b ++ bs)
    later_window i =
        let on : suc (suc i) ≡ 1 + suc i = omega arith in
        ap (λ n. drop n (w ++ (b ∷ bs))) on ∙ sym (drop-drop (suc i) 1 (w ++ (b ∷ bs))) ∙ ap (drop (suc i)) (sym slid_on)

pub sees_on : (mark : ℕ → Bool) (c : Carry) (b : ℕ) (bs : List ℕ) → Sees mark c (b ∷ bs) → Sees mark (byte_taken c b) bs
unfolding byte_taken
sees_on mark c b bs sees =
    record {
      far = sees.far;
      order = sees.order;
      whole = length_slid c.window b sees.whole;
      marks = λ i h p.
          ap mark (omega arith) ∙ sees.marks (suc i) (omega arith) (omega arith)
          ∙ ap (λ l. matches c.settings (signature_of (take 48 l))) (later_window c.window b sees.whole bs i);
    }
