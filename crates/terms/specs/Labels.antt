-- The byte of each label: document 01, "The cut sheet".
use Rattle.std.specs.Prelude.{ℕ, eqb, if◌then◌else◌}
use Rattle.terms.specs.declared.Label.{Label}
use Rattle.terms.specs.declared.Label.TheVariants.{Practice, Live}

abbrev pub byte_of : Label → ℕ
byte_of Practice = 80
byte_of Live = 76

-- the label that a byte stands for, where it stands for one
abbrev pub label_of : ℕ → Label
label_of byte = if eqb byte (byte_of Live) then Live else Practice
