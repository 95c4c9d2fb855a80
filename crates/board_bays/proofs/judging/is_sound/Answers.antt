-- `board_bays::judging::is_sound` meets its contract: the number, the rise, then the marker and steps.
use Rattle.std.proofs.Common.{sym, ◌∙◌}
use Rattle.board_bays.specs.Bays.{offset_count}
use Rattle.board_bays.proofs.Sound.{some_entry, too_many, sound_is}
use Rattle.board_bays.proofs.judging.is_sound.Goals as goal

pub overflow_sub-bay : goal.overflow_sub-bay
overflow_sub-bay c = some_entry _ c.requires

pub returns-then-bay : goal.returns-then-bay
returns-then-bay c = too_many _ _ _ _ _ c.if-bay.true

pub record-noted-requires : goal.record-noted-requires
unfolding offset_count
record-noted-requires c = (c.requires, c.if-bay.false)

pub returns-then-rises_within : goal.returns-then-rises_within
returns-then-rises_within c =
    sym (sound_is _ _ _ _ _ c.if-bay.false _ c.start.ensures _ c.end.ensures _ c.record-noted.ensures.marker _ c.record-noted.ensures.offsets
    ∙ rw (← c.rises_within.ensures, c.if-rises_within.true) (sym c.marker_fits.ensures))

pub returns-else-rises_within : goal.returns-else-rises_within
returns-else-rises_within c =
    c.if-rises_within.false
    ∙ sym (sound_is _ _ _ _ _ c.if-bay.false _ c.start.ensures _ c.end.ensures _ c.record-noted.ensures.marker _ c.record-noted.ensures.offsets
    ∙ rw (← c.rises_within.ensures, c.if-rises_within.false))
