-- `board_record::marks::record_marks` meets its contract: the first mark, and what follows it.
use Rattle.lists.proofs.Putting.{put_last}
use Rattle.board_record.proofs.Slow.{first-none, first_found}
use Rattle.board_record.proofs.marks.record_marks.Goals as goal

pub record_after-requires-clause-put : goal.record_after-requires-clause-put
record_after-requires-clause-put c = put_last c.put.ensures

pub returns-in-Ok : goal.returns-in-Ok
returns-in-Ok c = first_found _ _ _ c.requires _ c.in-Ok.ensures.found c.after-made.ensures.count c.put.ensures c.record_after.ensures

pub returns-in-Err : goal.returns-in-Err
returns-in-Err c = first-none _ _ _ c.requires _ c.in-Err.ensures.ended
