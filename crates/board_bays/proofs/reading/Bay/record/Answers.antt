-- `board_bays::reading::Bay::record` meets its contract.
use Rattle.std.proofs.Common.{◌≡◌, ℕ, ◌+◌, ◌-◌, List, ap, refl, get_or, take, drop, arith}
use Rattle.board_bays.specs.Bays.{offset_count, record_in}
use Rattle.board_bays.proofs.Sound.{some_entry}
use Rattle.board_bays.proofs.reading.Bay.record.Goals as goal

-- the offsets as the code takes them
lent : (bay : List ℕ) → take (get_or bay 0 0 - 1 + 2 - 2) (drop 2 bay) ≡ (record_in bay).offsets
unfolding record_in offset_count
lent bay = let same : get_or bay 0 0 - 1 + 2 - 2 ≡ get_or bay 0 0 - 1 = omega arith in ap (λ (k : ℕ). take k (drop 2 bay)) same

pub overflow_sub-count : goal.overflow_sub-count
overflow_sub-count c = some_entry _ c.requires.0

pub overflow_add-result : goal.overflow_add-result
unfolding offset_count
overflow_add-result c = omega (arith, c.requires.1)

pub slice_bounds-result-end : goal.slice_bounds-result-end
unfolding offset_count
slice_bounds-result-end c = omega (arith, c.requires, c.args.self.wide)

pub returns-clause-marker : goal.returns-clause-marker
unfolding record_in
returns-clause-marker c = refl

pub returns-clause-offsets : goal.returns-clause-offsets
returns-clause-offsets c = lent _
