-- Writing a sheet: what the rows that passed say of the settings, the list and the room.
use Rattle.std.specs.Prelude.{Ok}
use mathlib.Core.Path.{◌≡◌}
use mathlib.Core.Bool.{true}
use mathlib.Core.List.{List}
use Prim.Native.Nat.{ℕ, ◌≤◌}
use lib.ListN.{length}
use borrow.Author.Tests.{ltb-false, not-false}
use Rattle.terms.specs.declared.Settings.{Settings}
use Rattle.terms.specs.declared.Refusal.TheVariants.{SettingsOutOfRange, ListNotWellFormed, TooManyCuts, RoomTooShort}
use Rattle.terms.specs.Settings.{in_range}
use Rattle.terms.specs.Rows.{verdict}
use Rattle.terms.proofs.Verdicts.{clear}
use Rattle.lists.specs.WellFormed.{well_formed}
use Rattle.sheet_format.specs.Trailer.{most_cuts}
use Rattle.sheet.specs.Write.{sheet_size, write_sheet_rows}

-- no row of writing holds
pub record Writable (settings : Settings) (list : List ℕ) (room : ℕ) : Type 0 where
  pub in-range : in_range settings ≡ true
  pub well-formed : well_formed settings.minimum settings.maximum list ≡ true
  pub few : length list ≤ most_cuts
  pub roomy : sheet_size (length list) ≤ room

pub writable : (settings : Settings) (list : List ℕ) (room : ℕ) → verdict (write_sheet_rows settings list room) ≡ Ok tt → Writable settings list room
unfolding write_sheet_rows
writable settings list room e =
    let r = clear SettingsOutOfRange _ _ e in
    let w = clear ListNotWellFormed _ _ r.1 in
    let f = clear TooManyCuts _ _ w.1 in
    let m = clear RoomTooShort _ _ f.1 in
    record { in-range = not-false _ r.0; well-formed = not-false _ w.0; few = ltb-false _ _ f.0; roomy = ltb-false _ _ m.0 }
