-- What the calls of the single pass hand back, and the rows by which each judges its carry: document 01, "Numbers answered".
use Rattle.std.specs.Prelude.{ℕ, not, List, [], ◌∷◌, eqb, Ok, Err}
use Rattle.terms.specs.declared.Refusal.{Refusal}
use Rattle.terms.specs.declared.Refusal.TheVariants.{SettingsOutOfRange, CarryNotInOrder, CarryClosed}
use Rattle.terms.specs.Settings.{in_range}
use Rattle.terms.specs.Rows.{Row, row}
use Rattle.pass_carry.specs.declared.Carry.{Carry}
use Rattle.pass_carry.specs.declared.Outcome.{Outcome}
use Rattle.pass_carry.specs.Carries.{in_order}

-- a call that is refused hands its carry back unaltered
abbrev pub refused : Carry → Refusal → Outcome
refused c why = record { answer = Err why; carry = c }

abbrev pub wrote : Carry → ℕ → Outcome
wrote c n = record { answer = Ok n; carry = c }

-- the rows that every carry handed in is judged by: 1, 3, 4
unfoldable pub carry_rows : Carry → List Row
carry_rows c =
    row SettingsOutOfRange (not (in_range c.settings))
    ∷ row CarryNotInOrder (not (in_order c))
    ∷ row CarryClosed (eqb c.closed 1)
    ∷ []
