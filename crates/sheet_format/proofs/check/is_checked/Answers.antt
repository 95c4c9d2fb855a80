-- The word found is compared with the check word of what stands before it.
use Rattle.std.proofs.Common.{◌-◌, ◌≤◌, length, drop, refl, arith, length-drop, take_all}
use Rattle.words.specs.Numbers.{number_at}
use Rattle.sheet_format.specs.Sheets.{checked}
use Rattle.sheet_format.proofs.check.is_checked.Goals as goal

pub returns : goal.returns
unfolding checked number_at
returns c =
    let word = drop (length c.args.sheet.now - 4) c.args.sheet.now in
    let four : length word ≤ 4 = rw length-drop (omega (arith, c.requires)) in
    rw (c.number.ensures.0, c.from.ensures, c.check_word.ensures, c.split_at.ensures.front, c.split_at.ensures.back, take_all 4 word four) refl
