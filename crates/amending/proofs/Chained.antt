-- From any well-formed old list, true or not: the amended list is well formed and ends at the new length, so that amendments can be
-- chained; and a meeting exists where there is an old end and a new cut to meet it.
use Prim.Native.Nat.{ℕ, ◌+◌, ◌-◌, ◌^◌, ◌≤◌, ◌<◌}
use mathlib.Core.Path.{◌≡◌, sym, ap, subst}
use mathlib.Core.Bool.{true}
use mathlib.Core.List.{List, [], ◌∷◌, ◌++◌, map, append-nil}
use native.Mathlib.Omega.{arith}
use lib.ListN.{length, length-append}
use Rattle.laws.specs.Last.{last_or}
use Rattle.lists.specs.WellFormed.{well_formed, length_of}
use Rattle.lists.proofs.Reaching.{Reaches, there, step, reaches, fits, reaches_last, reaches_after, reaches_on}
use Rattle.amending.specs.declared.edits.Edit.{Edit}
use Rattle.amending.specs.Parts.{front, past_front, restart, moved, recut, back, amended_list}
use Rattle.amending.specs.Told.{Every, none, also, Recut, meeting, no_meeting}
use Rattle.amending.proofs.Front.{front_is, front_joined, restart_low, past_some}
use Rattle.amending.proofs.Told.{recut_told}

-- what holds of each entry holds of the last
every_last : {P : ℕ → Type 0} {l : List ℕ} (b : ℕ) → Every P l → 0 < length l → P (last_or b l)
unfolding last_or
every_last b none some = absurd (omega arith)
every_last b (also h none) some = h
every_last b (also {x = x} h (also h' r)) some = every_last x (also h' r) (omega arith)

goes_on : {lo hi z b : ℕ} {l : List ℕ} → Reaches lo hi z b l → b < z → 0 < length l
goes_on there h = absurd (omega arith)
goes_on (step up near far more) h = omega arith

-- a list moved
reaches_moved : {lo hi z b : ℕ} {l : List ℕ} (edit : Edit) (z' b' : ℕ) → b + edit.added ≡ b' + edit.removed → z + edit.added ≡ z' + edit.removed
    → Reaches lo hi z b l → Reaches lo hi z' b' (map (moved edit) l)
reaches_moved {lo} {hi} edit z' b' p q there = let same : z' ≡ b' = omega arith in subst (λ b. Reaches lo hi z' b []) same there
reaches_moved {lo} {hi} {z} edit z' b' p q (step {b = b} {x = x} up near far more) =
    let up' : b' < x + edit.added - edit.removed = omega arith in
    let near' : x + edit.added - edit.removed ≤ b' + hi = omega arith in
    step up' near' (λ h. let full : b + lo ≤ x = far (omega arith) in omega arith) (reaches_moved edit z' (x + edit.added - edit.removed) (omega arith) q more)

module _ (lo hi n' : ℕ) (edit : Edit) (new_cuts : ℕ → List ℕ) (reach : (c : ℕ) → c ≤ n' → Reaches lo hi n' c (new_cuts c))
    (old : List ℕ) (ok : well_formed lo hi old ≡ true) (inside : edit.at + edit.removed ≤ length_of old) (ends : length_of old + edit.added ≡ n' + edit.removed) where
  old_reaches : Reaches lo hi (length_of old) 0 (front edit.at old ++ past_front edit.at old)
  unfolding length_of well_formed
  old_reaches = rw (front_joined (front_is edit.at old)) (reaches lo hi 0 old ok).0

  past_reaches : Reaches lo hi (length_of old) (last_or 0 (front edit.at old)) (past_front edit.at old)
  past_reaches = reaches_after (front edit.at old) (past_front edit.at old) old_reaches

  low : restart edit.at old ≤ n'
  low = omega (arith, restart_low edit.at old)

  -- the recut and the back go on from the restart to the new end
  tail_reaches : {c e : ℕ} {past news r b : List ℕ} → Recut edit past n' news r b e → Reaches lo hi (length_of old) c past → Reaches lo hi n' c news → Reaches lo hi n' c (r ++ b)
  tail_reaches (no_meeting unmet) old-run new-run = rw append-nil new-run
  tail_reaches {c} (meeting {recut = r} t x later passed rest is unmet far was place) old-run new-run =
      let olds : Reaches lo hi (length_of old) c (passed ++ (x ∷ rest)) = rw was at old-run in
      let news : Reaches lo hi n' c (r ++ (t ∷ later)) = rw is at new-run in
      let here : moved edit x ≡ t = omega arith in
      reaches_on r (t ∷ later) (λ h. omega arith) news
      (turned (reaches_after r (t ∷ later) news) here (reaches_moved edit n' t place ends (rest_of (reaches_after passed (x ∷ rest) olds))))
    where
      rest_of : {z b x : ℕ} {l : List ℕ} → Reaches lo hi z b (x ∷ l) → Reaches lo hi z x l
      rest_of (step up near far more) = more

      turned : {z b t x : ℕ} {l k : List ℕ} → Reaches lo hi z b (t ∷ l) → x ≡ t → Reaches lo hi z t k → Reaches lo hi z b (x ∷ k)
      turned {z} {b} {k = k} (step up near far more) is on = subst (λ y. Reaches lo hi z b (y ∷ k)) (sym is) (step up near far on)

  amended_reaches : Reaches lo hi n' 0 (amended_list new_cuts old edit)
  unfolding amended_list recut back restart
  amended_reaches =
      let parts = front_is edit.at old in
      reaches_on (front edit.at old) (past_front edit.at old)
      (λ h. past_some parts (omega (arith, length-append (front edit.at old) (past_front edit.at old), ap length (front_joined parts)))) old_reaches
      (tail_reaches (recut_told edit _ n' _) past_reaches (reach _ low))

  pub well_formed_again : n' ≤ 2 ^ 40 → well_formed lo hi (amended_list new_cuts old edit) ≡ true
  unfolding well_formed
  well_formed_again short = fits lo hi short amended_reaches

  pub new_length : length_of (amended_list new_cuts old edit) ≡ n'
  unfolding length_of
  new_length = reaches_last amended_reaches

  -- without a meeting the new end would not be the old end, moved
  ends_meet : {c e : ℕ} {past news r b : List ℕ} → Recut edit past n' news r b e → 0 < length past → 0 < length news
      → Reaches lo hi (length_of old) c past → Reaches lo hi n' c news → 0 < length b
  ends_meet (meeting t x later passed rest is unmet far was place) some-old some-new old-run new-run = omega arith
  ends_meet {c} (no_meeting unmet) some-old some-new old-run new-run =
      absurd (every_last c (rw (reaches_last new-run) at (every_last c unmet some-new) (omega arith)) some-old (rw (reaches_last old-run) ends))

  -- where the old log is not empty and the new one is longer than the last front cut, a meeting exists: the new end meets the old end
  pub meeting_there : 0 < length_of old → restart edit.at old < n' → 0 < length (back new_cuts old edit)
  unfolding restart back
  meeting_there some longer =
      let parts = front_is edit.at old in
      let new-run = reach (last_or 0 (front edit.at old)) low in
      let old-some : 0 < length old = rw (front_joined parts) at (goes_on old_reaches some) in
      ends_meet (recut_told edit _ n' _) (past_some parts old-some) (goes_on new-run longer) past_reaches new-run
