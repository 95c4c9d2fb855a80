-- Sheets as the exported calls give and take them.
use Rattle.std.specs.Prelude.{Bool, true, false}
use Rattle.terms.specs.declared.Label.{Label}
use Rattle.terms.specs.declared.Label.TheVariants.{Practice, Live}
use Rattle.sheet.specs.Answers.{SheetAnswer, sheet_number, sheet_label, sheet_settings, sheet_count}
use Rattle.thrunglow.specs.declared.sheets.Reading.{Reading}

-- a label is lent as whether it is live
abbrev pub label_of : Bool → Label
label_of true = Live
label_of false = Practice

abbrev pub reading_of : SheetAnswer → Reading
reading_of sheet =
    record {
      number = sheet_number sheet;
      label = sheet_label sheet;
      settings = sheet_settings sheet;
      count = sheet_count sheet;
    }
