pub mod First
pub mod Chain
pub mod Next
pub mod Hops
pub mod Leaps
-- what the cuts up to an offset leave out
pub mod Recorded
pub mod Whole
