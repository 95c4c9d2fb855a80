-- Numbers read from chunks of their width: how many places were passed, and which numbers are left.
use Rattle.std.proofs.Common.{◌≡◌, ℕ, suc, ◌+◌, ◌/◌, ◌<◌, ◌≤◌, List, [], ◌∷◌, ◌++◌, length, get_or, drop, Some, None, ◌∙◌}
use Rattle.std.proofs.Common.{refl, sym, ap, add-one, arith, length-append, length-drop, take_at, drop_at, drop-cons}
use native.Mathlib.Nat.{add-div_left, div-eq_of_lt}
use Rattle.std.specs.declared.slice.ChunksExact.{ChunksExact}
use Rattle.std.specs.Slice.Iter.{chunks_exact_rest, chunks_exact_size, chunks_exact_steps}
use denote.Ref.{Bor}
use Rattle.words.specs.Numbers.{number, numbers, numbers_of}

-- after i places of a list, the chunks that are left are those of the others
pub record Left (width : ℕ) (list : List ℕ) (i : ℕ) (chunks : ChunksExact ℕ) : Type 0 where
  pub size : chunks_exact_size chunks ≡ width
  pub others : drop i list ≡ numbers_of width (chunks_exact_rest chunks)

module _ (width : ℕ) (some : 0 < width) where
  numbers_of_first : (first rest : List ℕ) → length first ≡ width → numbers_of width (first ++ rest) ≡ number first ∷ numbers_of width rest
  unfolding numbers_of numbers
  numbers_of_first first rest e =
      let more : length (first ++ rest) / width ≡ suc (length rest / width) = rw (length-append, e) (add-div_left (length rest) some ∙ add-one _) in
      rw (more, take_at first rest width e, drop_at first rest width e) refl

  numbers_of_none : (rest : List ℕ) → length rest < width → numbers_of width rest ≡ []
  unfolding numbers_of numbers
  numbers_of_none rest few = rw (div-eq_of_lt few) refl

  pub chunks_start : (bytes : List ℕ) (s : ChunksExact ℕ) → chunks_exact_rest s ≡ bytes → chunks_exact_size s ≡ width → Left width (numbers_of width bytes) 0 s
  chunks_start bytes s all size = record { size = size; others = ap (numbers_of width) (sym all) }

  module _ (list : List ℕ) (i : ℕ) (s t : ChunksExact ℕ) (l : Left width list i s) where
    -- a chunk more is the number at the next place
    pub chunk_more : (chunk : Bor (List ℕ)) → chunks_exact_steps s (Some chunk) t → (i < length list) × (get_or list i 0 ≡ number chunk.now) × Left width list (i + 1) t
    chunk_more chunk h =
        let first : drop i list ≡ number chunk.now ∷ numbers_of width (chunks_exact_rest t) =
        l.others ∙ ap (numbers_of width) h.1.0 ∙ numbers_of_first chunk.now (chunks_exact_rest t) (h.1.1 ∙ l.size) in
        let inside : i < length list = omega (arith, ap length first, length-drop i list) in
        let seam : get_or list i 0 ∷ drop (suc i) list ≡ number chunk.now ∷ numbers_of width (chunks_exact_rest t) = sym (drop-cons list i 0 inside) ∙ first in
        (inside, ap (λ r. get_or r 0 0) seam, record { size = h.0 ∙ l.size; others = rw add-one (ap (drop 1) seam) })

    -- no chunk more: that was all of it
    pub chunks_end : chunks_exact_steps s None t → length list ≤ i
    chunks_end h =
        let none : drop i list ≡ [] = l.others ∙ numbers_of_none (chunks_exact_rest s) (rw l.size at h.1.0) in
        omega (arith, ap length none, length-drop i list)
