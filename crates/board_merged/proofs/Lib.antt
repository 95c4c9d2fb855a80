-- the marker lemma
pub mod Marker
-- the walk follows the cuts, offset by offset
pub mod Following
-- and through all bays
pub mod AllBays
-- the offsets of true records, read
pub mod Reading
-- a bay that begins with a record, read back
pub mod ReadBack
-- a true board is accepted
pub mod Accepted
-- segment calls in any order
pub mod Orders
-- a true board's walk is the log's list
pub mod Merged
-- any accepted board's walk is the rule's over what it lists
pub mod AnyBoard
