-- the segments of a log follow one another, and the bays of a board
pub mod Ranges
-- offsets judged one by one
pub mod Offsets
-- bays judged one by one
pub mod Sound
-- what a table in which no row holds says
pub mod Verdicts
