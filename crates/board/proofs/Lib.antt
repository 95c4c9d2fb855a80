-- a record put into its bay, and a bay put back into its board
pub mod Fills
