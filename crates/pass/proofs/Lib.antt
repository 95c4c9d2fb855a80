-- a block that no row refuses
pub mod Blocks
-- the cut that closing adds, and closing row by row
pub mod Closing
-- the carry of a prefix: fresh starts it, a block keeps it
pub mod Prefix
-- such a carry is in order
pub mod Ordered
-- whatever the blocks, the calls write the cuts of the joined log
pub mod SinglePass
