-- The marker lemma: a mark whose neighbour before it is neither too near nor too far is a cut, wherever the cuts before it lie.
-- Nothing of segments is used but that the neighbour is known. So every record's marker is a cut of its log.
use Prim.Native.Nat.{ℕ, ◌+◌, ◌≤◌, ◌<◌}
use mathlib.Core.Path.{◌≡◌, refl, sym, ◌∙◌}
use mathlib.Core.Bool.{Bool, true}
use mathlib.Core.List.{List, [], ◌∷◌, ◌++◌}
use native.Mathlib.Omega.{arith}
use lib.Dec.{eqb}
use borrow.Author.Tests.{eqb-true, eq-eqb}
use Rattle.laws.proofs.Cases.{by_lt, by_test, clash}
use Rattle.rule.specs.Rule.{hop, cuts}
use Rattle.rule.proofs.Leaps.{first_hop}
use Rattle.rule.proofs.Hops.{UpTo, past, leap, leaps, up_to, stands, hop_rises, unmarked_before, cuts_by_hops}
use Rattle.board_bays.specs.Bays.{Record, is_listed}
use Rattle.board_record.specs.Told.{AfterMark, no_more, at_marker, no_marker, RecordTold, first_segment, no_marks, slow_mode}
use Rattle.board_bays.specs.Segments.{segment_end}
use Rattle.board_merged.specs.MarkerPieces.{MarkerPiece}

listed_here : (p q : ℕ) (l : List ℕ) → q ≡ p → is_listed p (q ∷ l) ≡ true
unfolding is_listed
listed_here p q l e = rw (eq-eqb q p e, is_listed)

listed_later : (p q : ℕ) (l : List ℕ) → is_listed p l ≡ true → is_listed p (q ∷ l) ≡ true
unfolding is_listed
listed_later p q l t = by_test (eqb q p) (λ e. rw (e, is_listed)) (λ e. rw (e, is_listed) t)

listed_before : (p : ℕ) (l k : List ℕ) → is_listed p l ≡ true → is_listed p (l ++ k) ≡ true
unfolding is_listed
listed_before p [] k t = absurd (clash (sym t))
listed_before p (q ∷ l) k t =
    by_test (eqb q p)
    (λ e. listed_here p q (l ++ k) (eqb-true q p e))
    (λ e. listed_later p q (l ++ k) (listed_before p l k (rw (e, is_listed) at t)))

-- hops up to a, the next of which is b: it is among the hops up to any n from b on
next_listed : (hop : ℕ → ℕ) (a n : ℕ) {s c b m : ℕ} {l k : List ℕ} → a ≤ n → b ≤ n → UpTo hop a s l c → hop c ≡ b → UpTo hop n s k m → is_listed b k ≡ true
next_listed hop a n {b = b} inside within (past beyond) is r =
    let first = leaps r is within in rw first.1 (listed_here b b first.0 refl)
next_listed hop a n {s} {b = b} inside within (leap near more) is r =
    let first = leaps r refl (omega arith) in
    rw first.1 (listed_later b (hop s) first.0 (next_listed hop a n inside within more is first.2))

module _ (mark : ℕ → Bool) (lo hi : ℕ) (positive : 0 < lo) (order : lo ≤ hi) where
  -- where c is the last cut at or below the mark that a marker piece begins with, its end is the next cut
  pub marker_lemma : {a b start c : ℕ} {l : List ℕ} → MarkerPiece mark lo hi a b → start ≤ a → UpTo (hop mark lo hi) a start l c → hop mark lo hi c ≡ b
  marker_lemma {a} {b} {c = c} piece h r =
      let s = stands (hop mark lo hi) a (hop_rises mark lo hi positive order) r in
      let at : c ≤ a = s.reached h in
      by_lt a (c + lo)
      (λ near. first_hop mark lo hi c b (omega (arith, piece.at_least)) (omega (arith, piece.at_most)) piece.ends (λ q x y. piece.neighbours q (omega arith) y))
      (λ passed. absurd (clash (sym piece.begins ∙ unmarked_before mark lo hi c a passed s.ahead)))

  -- so it is a cut of any log that it lies in
  pub marker_cut : (n : ℕ) {a b : ℕ} → MarkerPiece mark lo hi a b → b ≤ n → is_listed b (cuts mark lo hi n) ≡ true
  marker_cut n {a} {b} piece within =
      let rises = hop_rises mark lo hi positive order in
      let before = up_to (hop mark lo hi) a rises 0 in
      let all = up_to (hop mark lo hi) n rises 0 in
      let below : a ≤ n = omega (arith, piece.at_least) in
      rw (cuts_by_hops mark lo hi positive order n all)
      (listed_before b _ _ (next_listed (hop mark lo hi) a n below within before (marker_lemma piece (omega arith) before) all))

  after_mark : (n e : ℕ) → e ≤ n → {a marker : ℕ} {offsets : List ℕ} → mark a ≡ true → AfterMark mark lo hi n e a marker offsets → 0 < marker
      → is_listed marker (cuts mark lo hi n) ≡ true
  after_mark n e inside ma (no_more u) some = absurd (omega arith)
  after_mark n e inside {a} ma (at_marker {b = b} above within mb u far wide after) some =
      marker_cut n (record { begins = ma; ends = mb; neighbours = u; at_least = omega arith; at_most = omega arith }) (omega arith)
  after_mark n e inside ma (no_marker above within mb u other after) some = after_mark n e inside mb after some

  pub record_marker : (n size i : ℕ) → segment_end n size i ≤ n → (r : Record) → RecordTold mark lo hi n size i r → 0 < r.marker → is_listed r.marker (cuts mark lo hi n) ≡ true
  record_marker n size i inside r (first_segment offsets) some = absurd (omega arith)
  record_marker n size i inside r (no_marks u) some = absurd (omega arith)
  record_marker n size i inside r (slow_mode above within ma u after) some = after_mark n _ inside ma after some
