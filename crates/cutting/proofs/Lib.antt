-- marks agree where their windows do
pub mod Marked
-- the low bits as the code masks them
pub mod Masked
-- the search for the next mark
pub mod Searching
-- a chain put into a lent list
pub mod Chains
-- the cuts of a log are a well-formed list
pub mod Reaching
