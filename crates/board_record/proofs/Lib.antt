-- the marks of a segment, one after the other
pub mod Marking
-- what is recorded after a mark
pub mod After
-- the record in the words of document 01
pub mod Told
-- marks and hops found in a stretch
pub mod Stretching
-- slow mode in a stretch
pub mod Slow
-- a record depends on its own marks alone
pub mod Alike
-- the stretch of a segment has the marks of the log
pub mod Parts
