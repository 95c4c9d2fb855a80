-- `board::filling::fill_bay` meets its contract: the offsets stand past entries 0 and 1, which are stored last.
use Rattle.board.proofs.Fills.{record_fitted, record_long}
use Rattle.board.proofs.filling.fill_bay.Goals as goal

pub returns-then-recorded-places : goal.returns-then-recorded-places
returns-then-recorded-places c =
    let long = record_long _ _ c.args.bay.now _ c.requires.1 c.record_segment-recorded.ensures c.if-recorded-places.true in
    record { answer = long.0; bay = long.1 }

pub returns : goal.returns
returns c =
    let fitted = record_fitted _ _ c.args.bay.now _ c.requires.1 c.record_segment-recorded.ensures c.if-recorded-places.false in
    record { answer = fitted.0; bay = fitted.1 }
