-- The signature of a run of bytes when a byte enters, and when a window slides: over any degree d from 8 on, any low part and
-- any length of the window. At the end the window of 48 bytes, in the form that a search through a log cites.
use mathlib.Core.Path.{◌≡◌, sym, ap, ap₂, subst, ◌∙◌}
use mathlib.Core.List.{List, [], ◌∷◌, ◌++◌}
use Prim.Native.Nat.{ℕ, zero, suc, ◌+◌, ◌-◌, ◌*◌, ◌/◌, ◌%◌, ◌^◌, ◌≤◌, ◌<◌}
use native.Mathlib.Nat.{le_of_lt, mod-lt, lt_of_lt_of_le, not-suc-le-zero}
use native.Mathlib.Numerals.{add-one}
use native.Mathlib.Omega.{arith}
use lib.Arith.{digits_lt}
use lib.Dec.{lit<, lit≤}
use lib.Pow.{pow_pos, pow_mono, shl_exact}
use lib.Bits.{bit_and, bit_xor, and_mask, xor_comm, xor_shifted}
use lib.ListN.{length, get_or, take, drop, length-drop}
use lib.Seq.{take-suc, drop-cons, get_or-drop, length-take-le}
use Rattle.laws.proofs.Bytes.{byte_power, number_lt, number_snoc, bytes_drop, bytes_take}
pub use Rattle.laws.specs.Bytes.{Bytes}
use Rattle.signature.specs.Polynomials.{rem}
use Rattle.signature.specs.Signatures.{number, signature, grown, rolled, degree, low_part, span, signature_of, window}
use Rattle.signature.proofs.Xor.{xor_cancel}
use Rattle.signature.proofs.Remainders.{rem_lt, rem_small, rem-xor, rem_shift, rem_by_top}

-- one byte more on b and n below it, where p is the power that b stands at
one_up : (b p p' n e : ℕ) → p' ≡ p * 2 ^ 8 → (b * p + n) * 2 ^ 8 + e ≡ b * p' + (n * 2 ^ 8 + e)
one_up b p p' n e is-p' = rw is-p' (omega arith)

module _ (d l : ℕ) (low : l < 2 ^ d) (wide : 8 ≤ d) where
  -- a byte enters: what is shifted and what is added are reduced as one
  pub grown_reduced : (s e : ℕ) → e < 2 ^ 8 → grown d l s e ≡ rem d l (s * 2 ^ 8 + e)
  unfolding grown
  grown_reduced s e h =
      ap (bit_xor (rem d l (s * 2 ^ 8))) (sym (rem_small d l low e (lt_of_lt_of_le h (pow_mono wide))))
      ∙ sym (rem-xor d l low (s * 2 ^ 8) e)
      ∙ ap (rem d l) (xor_shifted s 8 e h)

  pub signature_snoc : (bs : List ℕ) (e : ℕ) → e < 2 ^ 8 → signature d l (bs ++ e ∷ []) ≡ grown d l (signature d l bs) e
  unfolding signature
  signature_snoc bs e h =
      ap (rem d l) (number_snoc bs e) ∙ rem_shift d l low 8 (number bs) e h ∙ sym (grown_reduced (rem d l (number bs)) e h)

  -- a window of m bytes slides by one: b leaves and e enters
  pub slide : (m b : ℕ) (rest : List ℕ) (e : ℕ) → length (b ∷ rest) ≡ m → Bytes rest → e < 2 ^ 8
      → signature d l (rest ++ e ∷ []) ≡ rolled d l m (signature d l (b ∷ rest)) b e
  unfolding number rolled signature
  slide m b rest e len bytes h =
      let power : 2 ^ (8 * m) ≡ 2 ^ (8 * length rest) * 2 ^ 8 = ap (λ (n : ℕ). 2 ^ (8 * n)) (sym len) ∙ byte_power (length rest) in
      let next = number rest * 2 ^ 8 + e in
      let fits : next < 2 ^ (8 * m) = subst (λ (x : ℕ). next < x) (sym power) (digits_lt (number_lt rest bytes) h) in
      let left = rem d l (b * 2 ^ (8 * m)) in
      ap (rem d l) (number_snoc rest e)
      ∙ sym (xor_cancel left (rem d l next))
      ∙ xor_comm left (bit_xor left (rem d l next))
      ∙ ap (λ (x : ℕ). bit_xor x left)
      (sym (rem-xor d l low (b * 2 ^ (8 * m)) next)
      ∙ ap (rem d l) (xor_shifted b (8 * m) next fits ∙ sym (one_up b _ _ (number rest) e power))
      ∙ rem_shift d l low 8 (number (b ∷ rest)) e h
      ∙ sym (grown_reduced (rem d l (number (b ∷ rest))) e h))

  -- the same in a log, from offset q to the next
  pub slide_log : (m : ℕ) (log : List ℕ) → Bytes log → (q : ℕ) → q + m < length log → 0 < m
      → signature d l (take m (drop (q + 1) log)) ≡ rolled d l m (signature d l (take m (drop q log))) (get_or log q 0) (get_or log (q + m) 0)
  slide_log zero log bytes q h pos = absurd (not-suc-le-zero pos)
  slide_log (suc k) log bytes q h pos =
      let after = drop (suc q) log in
      let long : k < length after = simp length-drop (omega arith) in
      let enters : get_or after k 0 ≡ get_or log (q + suc k) 0 = get_or-drop (suc q) log k 0 ∙ ap (λ (i : ℕ). get_or log i 0) (omega arith) in
      ap (λ (i : ℕ). signature d l (take (suc k) (drop i log))) (add-one q)
      ∙ ap (signature d l) (take-suc after k 0 long)
      ∙ slide (suc k) (get_or log q 0) (take k after) (get_or after k 0) (ap suc (length-take-le k after (le_of_lt long)))
      (bytes_take k after (bytes_drop (suc q) log bytes)) (bytes_drop (suc q) log bytes k)
      ∙ ap₂ (λ (w : List ℕ) (e : ℕ). rolled d l (suc k) (signature d l w) (get_or log q 0) e)
      (sym (ap (take (suc k)) (drop-cons log q 0 (omega arith)))) enters

shifted_low : (e w s : ℕ) → e + 8 ≤ w → bit_and s (2 ^ e - 1) * 2 ^ 8 % 2 ^ w ≡ s % 2 ^ e * 2 ^ 8
shifted_low e w s fits =
    ap (λ (n : ℕ). n * 2 ^ 8 % 2 ^ w) (and_mask s e) ∙ shl_exact e 8 w (mod-lt s (pow_pos e)) fits

-- a byte enters by shifts and masks in a word of w bits: the e low digits move up by 8, and x stands for those above them
pub grown_by_shifts : (e l w : ℕ) → l < 2 ^ (e + 8) → e + 8 ≤ w → (s b x : ℕ) → b < 2 ^ 8 → x ≡ rem (e + 8) l (s / 2 ^ e * 2 ^ (e + 8))
    → bit_xor (bit_xor (bit_and s (2 ^ e - 1) * 2 ^ 8 % 2 ^ w) b) x ≡ grown (e + 8) l s b
grown_by_shifts e l w low fits s b x hb is_x =
    ap₂ bit_xor (ap (λ (n : ℕ). bit_xor n b) (shifted_low e w s fits) ∙ xor_shifted (s % 2 ^ e) 8 b hb) is_x
    ∙ xor_comm (s % 2 ^ e * 2 ^ 8 + b) (rem (e + 8) l (s / 2 ^ e * 2 ^ (e + 8)))
    ∙ sym (rem_by_top e 8 l low s b hb)
    ∙ sym (grown_reduced (e + 8) l low (omega arith) s b hb)

-- of a run of bytes, those before the i-th give s: with the i-th they give r
pub push_grows : (bs : List ℕ) → Bytes bs → (i : ℕ) → i < length bs → (s r : ℕ) → s ≡ signature_of (take i bs)
    → r ≡ grown degree low_part s (get_or bs i 0) → r ≡ signature_of (take (i + 1) bs)
unfolding signature_of
push_grows bs bytes i h s r is-s is-r =
    is-r
    ∙ ap (λ (x : ℕ). grown degree low_part x (get_or bs i 0)) is-s
    ∙ sym (signature_snoc degree low_part (lit< tt) (lit≤ tt) (take i bs) (get_or bs i 0) (bytes i))
    ∙ ap (signature degree low_part) (sym (ap (λ (k : ℕ). take k bs) (add-one i) ∙ take-suc bs i 0 h))

-- rolled over the bytes log[q] and log[q + 48], the signature of the window at q is that of the window at q + 1
pub roll_slides : (log : List ℕ) → Bytes log → (q : ℕ) → q + span < length log → (s r : ℕ) → s ≡ signature_of (window log q)
    → r ≡ rolled degree low_part span s (get_or log q 0) (get_or log (q + span) 0) → r ≡ signature_of (window log (q + 1))
unfolding signature_of
roll_slides log bytes q h s r is-s is-r =
    is-r ∙ ap (λ (x : ℕ). rolled degree low_part span x (get_or log q 0) (get_or log (q + span) 0)) is-s
    ∙ sym (slide_log degree low_part (lit< tt) (lit≤ tt) span log bytes q h (lit< tt))

pub signature_lt : (bytes : List ℕ) {s : ℕ} → s ≡ signature_of bytes → s < 2 ^ degree
unfolding signature_of signature
signature_lt bytes is-s = subst (λ (x : ℕ). x < 2 ^ degree) (sym is-s) (rem_lt degree low_part (lit< tt) (number bytes))
