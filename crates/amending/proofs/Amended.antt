-- The amended list of a true old list is the new log cut afresh. Two facts about the two logs' next cuts carry it: what was cut at or
-- below the change's place, the old end excepted, is cut again; and past the change the two logs' cuts lie alike. The one-pass rule supplies both.
use Prim.Native.Nat.{ℕ, ◌+◌, ◌-◌, ◌≤◌, ◌<◌}
use mathlib.Core.Path.{◌≡◌, refl, sym, ap, ap₂, ◌∙◌, subst}
use mathlib.Core.Bool.{Bool}
use mathlib.Core.List.{List, ◌∷◌, ◌++◌, map, append-nil}
use native.Mathlib.Omega.{arith}
use Rattle.laws.specs.Last.{last_or}
use Rattle.rule.specs.Rule.{next, chain, cuts_from, cuts}
use Rattle.rule.proofs.Chain.{Run, stay, onward, Rising, parted, whole, run_after, run_tail, run_all, run_moved}
use Rattle.rule.proofs.Next.{next_again, next_moves, rising}
use Rattle.amending.specs.declared.edits.Edit.{Edit}
use Rattle.amending.specs.Parts.{front, past_front, restart, moved, recut, back, amended_list}
use Rattle.amending.specs.Told.{Recut, meeting, no_meeting}
use Rattle.amending.proofs.Front.{Front, none_old, old_last, beyond, kept, front_is, front_joined, restart_low}
use Rattle.amending.proofs.Told.{recut_told}

-- how a run begins
run_first : {next : ℕ → ℕ} {n c x m : ℕ} {l : List ℕ} → Run next n c (x ∷ l) m → (c < n) × (next c ≡ x) × Run next n x l m
run_first (onward below rest) = (below, refl, rest)

module _ (next next' : ℕ → ℕ) (n n' : ℕ) (edit : Edit) (ok : Rising next n) (ok' : Rising next' n')
    (inside : edit.at + edit.removed ≤ n) (ends : n + edit.added ≡ n' + edit.removed)
    (again : (x : ℕ) → x < n → next x ≤ edit.at → next x < n → next' x ≡ next x)
    (alike : (x x' : ℕ) → edit.at + edit.removed ≤ x → x < n → x + edit.added ≡ x' + edit.removed → next x + edit.added ≡ next' x' + edit.removed) where
  -- the front is cut again
  front_again : {b : ℕ} {l f p : List ℕ} → Front edit.at l f p → Run next n b l n → Run next' n' b f (last_or b f)
  unfolding last_or
  front_again none_old r = stay
  front_again old_last r = stay
  front_again (beyond h) r = stay
  front_again {b} (kept {x = x} {f = f} h more) r =
      let first = run_first r in
      let below : b < n = first.0 in
      let reached : next b ≡ x = first.1 in
      let further : x < n = (run_first first.2).0 in
      let same : next' b ≡ x = again b below (rw reached h) (rw reached further) ∙ reached in
      let up : b < next b = ok.rises b below in
      let within : b < n' = omega (arith, reached) in
      subst (λ z. Run next' n' b (z ∷ f) (last_or z f)) same (onward within (rw same (front_again {b = x} more first.2)))

  -- the recut and the back are the new cuts: the back is those from the meeting on
  tail_again : {c e : ℕ} {past news r b : List ℕ} → Recut edit past n' news r b e → Run next n c past n → Run next' n' c news n' → r ++ b ≡ news
  tail_again (no_meeting unmet) old new = append-nil _
  tail_again {c} (meeting {recut = r} t x later passed rest is unmet far was place) old new =
      let old-run : Run next n c (passed ++ (x ∷ rest)) n = rw was at old in
      let new-run : Run next' n' c (r ++ (t ∷ later)) n' = rw is at new in
      let moves : Run next' n' t (map (moved edit) rest) n' =
      run_moved next next' n n' edit.removed edit.added (edit.at + edit.removed) ends
      (λ y y' far b place. let up : y < next y = ok.rises y b in (omega arith, alike y y' far b place)) t n' (omega arith) place ends (run_tail (run_after passed (x ∷ rest) old-run)) in
      let here : moved edit x ≡ t = omega arith in
      ap (λ l. r ++ l) (ap₂ ◌∷◌ here (sym (run_all next' n' ok' moves) ∙ run_all next' n' ok' (run_tail (run_after r (t ∷ later) new-run)))) ∙ sym is

  amended_list_lem : amended_list (λ c. chain next' n' (n' - c) c) (chain next n (n - 0) 0) edit ≡ chain next' n' (n' - 0) 0
  unfolding amended_list recut back restart
  amended_list_lem =
      let old = chain next n (n - 0) 0 in
      let parts = front_is edit.at old in
      let run = whole next n ok 0 (omega arith) in
      let low : last_or 0 (front edit.at old) ≤ edit.at = restart_low edit.at old in
      let halves : Run next n 0 (front edit.at old ++ past_front edit.at old) n = rw (front_joined parts) run in
      ap (λ l. front edit.at old ++ l)
      (tail_again (recut_told edit _ n' _) (run_after (front edit.at old) (past_front edit.at old) halves) (whole next' n' ok' (last_or 0 (front edit.at old)) (omega arith)))
      ∙ sym (parted next' n' ok' (front_again parts run))

-- two logs that are marked alike up to the change, and alike past it with the window behind it
module _ (mark mark' : ℕ → Bool) (lo hi n n' : ℕ) (edit : Edit) (window : 48 ≤ lo) (order : lo ≤ hi)
    (inside : edit.at + edit.removed ≤ n) (ends : n + edit.added ≡ n' + edit.removed)
    (fronts : (q : ℕ) → q ≤ edit.at → mark q ≡ mark' q)
    (backs : (q q' : ℕ) → edit.at + edit.removed + 48 ≤ q → q ≤ n → q + edit.added ≡ q' + edit.removed → mark q ≡ mark' q') where
  pub amended_by_marks : amended_list (cuts_from mark' lo hi n') (cuts mark lo hi n) edit ≡ cuts mark' lo hi n'
  unfolding cuts_from
  amended_by_marks =
      amended_list_lem (next mark lo hi n) (next mark' lo hi n') n n' edit (rising mark lo hi n (omega arith) order) (rising mark' lo hi n' (omega arith) order) inside ends
      (λ x b low below. next_again mark mark' lo hi n n' x (omega arith) (λ is. absurd (omega arith)) (λ q far near. fronts q (omega arith)))
      (λ x x' far b place. next_moves mark mark' lo hi n n' edit.removed edit.added ends x x' place
      (λ y long short fits. backs (x + y) (x' + y) (omega arith) fits (omega arith)))
