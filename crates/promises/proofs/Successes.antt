-- A success of a call that writes cuts by a table of rows: no row holds, and the list is written whole.
use Rattle.std.specs.Prelude.{Ok, Err}
use Prim.Native.Nat.{ℕ, ◌≤◌}
use mathlib.Core.Path.{◌≡◌, sym, ap}
use mathlib.Core.List.{List}
use lib.ListN.{length}
use Rattle.laws.proofs.Cases.{impossible}
use Rattle.terms.specs.declared.Refusal.{Refusal}
use Rattle.terms.specs.declared.Refusal.TheVariants.{ListFull}
use Rattle.terms.specs.Answers.{answer_count}
use Rattle.terms.specs.Rows.{Verdict, ruled, leaves}
use Rattle.terms.proofs.Verdicts.{succeeded}
use Rattle.lists.specs.Written.{written_list}
use Rattle.lists.proofs.Written.{written_whole}
use Rattle.promises.specs.OneList.{Lists}

-- a call that wrote: no row holds, and the count is what was to be written
pub succeeds : (v : Verdict) (m : ℕ) {k : ℕ} → ruled v Err (Ok m) ≡ Ok k → (v ≡ Ok tt) × (m ≡ k)
unfolding answer_count
succeeds v m {k} e = let f = succeeded v Err (Ok m) e never in (f.0, ap answer_count f.1)
  where
    never : (why : Refusal) → Err why ≡ Ok k → ⊥
    never why p = impossible (cc)

pub wrote_all : (v : Verdict) (cuts list : List ℕ) {k : ℕ} → ruled v Err (Ok (length cuts)) ≡ Ok k → (v ≡ Ok tt → length cuts ≤ length list)
    → Lists list (leaves v ListFull list (written_list cuts list)) cuts k
wrote_all v cuts list e fits =
    let f = succeeds v (length cuts) e in
    record { counted = sym f.1; written = rw f.0 (written_whole cuts list (fits f.0)) }
