-- a list parted at the first entry that passes a test
pub mod Split
-- the front of an old list
pub mod Front
-- the test of an edit
pub mod Fitting
-- lists read place by place
pub mod Places
-- looking for the meeting in a rising list
pub mod Looking
-- the recut, cut by cut
pub mod Recuts
-- the three parts written one after the other
pub mod Written
-- the parts are what document 01 says
pub mod Told
-- the amended list of a true list, over marks
pub mod Amended
-- from any well-formed list: well formed again, and a meeting exists
pub mod Chained
-- two new logs that agree on the recut stretch
pub mod Stretch
-- the amended list of a true list, over bytes
pub mod Afresh
