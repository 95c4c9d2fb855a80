-- A bay that begins with a record: it is done, and the record is read back.
use Prim.Native.Nat.{ℕ, suc, ◌-◌, ◌≤◌}
use mathlib.Core.Path.{◌≡◌, ap, ◌∙◌}
use mathlib.Core.Bool.{true}
use mathlib.Core.List.{List, ◌++◌}
use native.Mathlib.Omega.{arith}
use lib.ListN.{length, take, length-append}
use lib.Seq.{take-append_seam}
use borrow.Author.Tests.{lt-ltb}
use Rattle.board_bays.specs.Bays.{Record, entries, is_done, offset_count, record_in, Holds}

-- what a bay holds is read back
pub read_back : (bay : List ℕ) (r : Record) → Holds bay r → record_in bay ≡ r
unfolding record_in offset_count entries
read_back bay r h =
    let count : suc (length r.offsets) - 1 ≡ length r.offsets = omega arith in
    let whole : take (suc (length r.offsets) - 1) (r.offsets ++ h.rest) ≡ r.offsets = rw count (take-append_seam r.offsets h.rest) in
    ap record_in h.begins ∙ ap {B = Record} (λ (l : List ℕ). record { marker = r.marker; offsets = l }) whole

-- it has room for what it holds
pub room : (bay : List ℕ) (r : Record) → Holds bay r → offset_count bay ≤ length bay - 2
unfolding offset_count entries
room bay r h =
    let long : length bay ≡ suc (suc (length (r.offsets ++ h.rest))) = ap length h.begins in
    rw h.begins (omega (arith, length-append r.offsets h.rest))

pub done : (bay : List ℕ) (r : Record) → Holds bay r → is_done bay ≡ true
unfolding is_done entries
done bay r h = ap is_done h.begins ∙ lt-ltb 0 (suc (length r.offsets)) (omega arith)
