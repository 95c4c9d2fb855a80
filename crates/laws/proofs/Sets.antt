-- Entries stored from a place on, one after the other, as far as the list goes (`sets`): stores joined, stores past the end, and a part of
-- the list that stores meet or do not meet.
use Prim.Native.Nat.{ℕ, suc, ◌+◌, ◌-◌, ◌≤◌, ◌<◌}
use mathlib.Core.Path.{◌≡◌, refl, sym, ap, ◌∙◌}
use mathlib.Core.List.{List, [], ◌∷◌, ◌++◌, append_assoc}
use mathlib.Core.Logic.{◌⊎◌, inl, inr, ⊎_elim}
use native.Mathlib.Nat.{add-zero, zero-add, add-suc, suc-add}
use native.Mathlib.Omega.{arith}
use lib.ListN.{length, take, drop, set, drop_of_length-le, length-set, length-take, take-append-drop}
use lib.Seq.{sets, length-sets, sets-eq, set_out, set_comm, take-set-le, drop-set-lt, drop-set-add, length-take-le, take_at, drop_at}
use Rattle.laws.specs.Over.{over}
use Rattle.laws.proofs.Cases.{by_lt}

pub sets_joined : (l : List ℕ) (i : ℕ) (f g : List ℕ) → sets l i (f ++ g) ≡ sets (sets l i f) (i + length f) g
sets_joined l i [] g = ap (λ (k : ℕ). sets l k g) (sym (add-zero i))
sets_joined l i (x ∷ f) g =
    sets_joined (set l i x) (suc i) f g ∙ ap (λ (k : ℕ). sets (sets (set l i x) (suc i) f) k g) (suc-add i (length f) ∙ sym (add-suc i (length f)))

sets_past : (l : List ℕ) (i : ℕ) (f : List ℕ) → length l ≤ i → sets l i f ≡ l
sets_past l i [] h = refl
sets_past l i (x ∷ f) h = sets_past (set l i x) (suc i) f (rw length-set (omega arith)) ∙ set_out l i x h

-- of entries stored from the first place on, as many are there as there are places
pub sets_written : (l f : List ℕ) → sets l 0 f ≡ over (take (length l) f) l
unfolding over
sets_written l f =
    let fits : List ℕ = take (length l) f in
    let short : 0 + length fits ≤ length l = rw length-take (omega arith) in
    ap (λ (k : List ℕ). sets l 0 k) (sym (take-append-drop (length l) f))
    ∙ sets_joined l 0 fits (drop (length l) f)
    ∙ by_lt (length f) (length l)
    (λ h. ap (λ (k : List ℕ). sets (sets l 0 fits) (0 + length fits) k) (drop_of_length-le f {i = length l} (omega arith)))
    (λ h. sets_past (sets l 0 fits) (0 + length fits) (drop (length l) f) (rw (length-sets, length-take) (omega arith)))
    ∙ sets-eq fits l 0 short
    ∙ ap (λ (k : ℕ). fits ++ drop k l) (zero-add (length fits))

-- a store that does not meet others is made before or after them
set_apart : (l : List ℕ) (j x b : ℕ) (g : List ℕ) → (j < b) ⊎ (b + length g ≤ j) → set (sets l b g) j x ≡ sets (set l j x) b g
set_apart l j x b [] apart = refl
set_apart l j x b (y ∷ g) apart =
    set_apart (set l b y) j x (suc b) g (⊎_elim (λ h. inl (omega arith)) (λ h. inr (omega arith)) apart)
    ∙ ap (λ (k : List ℕ). sets k (suc b) g) (set_comm l b j y x (λ e. ⊎_elim (λ h. omega arith) (λ h. omega arith) apart))

-- stores that do not meet are made in either order
pub sets_commute : (l : List ℕ) (a b : ℕ) (f g : List ℕ) → (a + length f ≤ b) ⊎ (b + length g ≤ a) → sets (sets l b g) a f ≡ sets (sets l a f) b g
sets_commute l a b [] g apart = refl
sets_commute l a b (x ∷ f) g apart =
    ap (λ (k : List ℕ). sets k (suc a) f) (set_apart l a x b g (⊎_elim (λ h. inl (omega arith)) inr apart))
    ∙ sets_commute (set l a x) (suc a) b f g (⊎_elim (λ h. inl (omega arith)) (λ h. inr (omega arith)) apart)

-- of the w entries from place b on: a store elsewhere
part_set : (w b : ℕ) (l : List ℕ) (j x : ℕ) → (j < b) ⊎ (b + w ≤ j) → take w (drop b (set l j x)) ≡ take w (drop b l)
part_set w b l j x =
    ⊎_elim
    (λ h. ap (take w) (drop-set-lt b l j x h))
    (λ h. let place : j ≡ b + (j - b) = omega arith in
    ap (λ (k : ℕ). take w (drop b (set l k x))) place ∙ ap (take w) (drop-set-add b l (j - b) x) ∙ take-set-le w (drop b l) (j - b) x (omega arith))

-- stores elsewhere
pub part_other : (w b : ℕ) (l : List ℕ) (a : ℕ) (f : List ℕ) → (a + length f ≤ b) ⊎ (b + w ≤ a) → take w (drop b (sets l a f)) ≡ take w (drop b l)
part_other w b l a [] apart = refl
part_other w b l a (x ∷ f) apart =
    part_other w b (set l a x) (suc a) f (⊎_elim (λ h. inl (omega arith)) (λ h. inr (omega arith)) apart)
    ∙ part_set w b l a x (⊎_elim (λ h. inl (omega arith)) inr apart)

-- and what was stored there
pub part_same : (l : List ℕ) (a : ℕ) (f : List ℕ) → a + length f ≤ length l → take (length f) (drop a (sets l a f)) ≡ f
part_same l a f fits =
    let front : length (take a l) ≡ a = length-take-le a l (omega arith) in
    ap (λ (k : List ℕ). take (length f) (drop a k)) (sets-eq f l a fits ∙ append_assoc (take a l) f (drop (a + length f) l))
    ∙ ap (take (length f)) (drop_at (take a l) (f ++ drop (a + length f) l) a front)
    ∙ take_at f (drop (a + length f) l) (length f) refl
