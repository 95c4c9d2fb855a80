-- The walk over all bays: where it follows the cuts through each bay, its list is all cuts of the log.
use Prim.Native.Nat.{ℕ, zero, suc, ◌+◌, ◌≤◌, ◌<◌}
use mathlib.Core.Path.{◌≡◌, sym, ap, ◌∙◌}
use mathlib.Core.Bool.{Bool}
use mathlib.Core.List.{List, append_assoc}
use native.Mathlib.Omega.{arith}
use Rattle.rule.specs.Rule.{hop, last_or, cuts, Unmarked}
use Rattle.rule.proofs.Leaps.{past_hop}
use Rattle.rule.proofs.Hops.{hop_rises, cuts_by_hops}
use Rattle.board_bays.specs.Segments.{segments}
use Rattle.board_bays.specs.Bays.{Record}
use Rattle.board_bays.proofs.Ranges.{reach, reach_none, reach_all}
use Rattle.board_walk.specs.Walk.{forced_up_to, bay_cuts, bays_cuts, last_cuts, walk}
use Rattle.board_merged.proofs.Following.{Walked, joined, to_last, idle, forced_walk, up_to_moved}

-- from cut c, with nothing left to cut before segment i, the walk follows the cuts through bay i
module _ (mark : ℕ → Bool) (lo hi : ℕ) (positive : 0 < lo) (order : lo ≤ hi) (n size : ℕ) (sized : 0 < size) (bay : ℕ → Record)
    (read_bay : (i c : ℕ) → i < segments n size → c ≤ reach n size i → Unmarked mark (c + lo) (suc (reach n size i))
    → (m : ℕ) × Walked mark lo hi c (reach n size (suc i)) (bay_cuts lo hi i c (bay i)) m) where
  read_bays : (k i c : ℕ) → i + k ≡ segments n size → c ≤ reach n size i → Unmarked mark (c + lo) (suc (reach n size i))
      → Walked mark lo hi c n (bays_cuts lo hi bay k i c) (last_or c (bays_cuts lo hi bay k i c))
  unfolding bays_cuts last_or
  read_bays zero i c count below clear =
      let all : reach n size i ≡ n = ap (reach n size) (omega arith) ∙ reach_all n size sized in
      idle mark lo hi positive order c n (omega arith) (rw (← all) clear)
  read_bays (suc k) i c count below clear =
      let w = to_last mark lo hi positive order (read_bay i c (omega arith) below clear).1 in
      to_last mark lo hi positive order
      (joined mark lo hi positive order w (read_bays k (suc i) _ (omega arith) w.reached w.clear))

  pub all_bays : walk lo hi bay (segments n size) n ≡ cuts mark lo hi n
  unfolding walk last_cuts
  all_bays =
      let w = read_bays (segments n size) 0 0 (omega arith) (omega arith) (λ q x y. absurd (omega (arith, reach_none n size sized))) in
      let made : List ℕ = bays_cuts lo hi bay (segments n size) 0 0 in
      let f = forced_walk mark lo hi positive order (last_or 0 made) n w.reached w.clear in
      let rest : List ℕ = forced_up_to hi n (last_or 0 made) in
      let whole = joined mark lo hi positive order w f.0 in
      let ahead = past_hop mark lo hi (last_or (last_or 0 made) rest) n f.1 f.0.clear in
      let r = up_to_moved (hop mark lo hi) (hop_rises mark lo hi positive order) _ n whole.reached ahead whole.hopped in
      sym (cuts_by_hops mark lo hi positive order n r ∙ append_assoc made rest _)
