-- what the rows that judge every carry say of one
pub mod Rows
-- a carry in order, as facts by name
pub mod Usable
-- one byte taken, by whether it ends a piece
pub mod OneByte
-- the marks that a carry sees in a block
pub mod Sees
-- the rule byte by byte makes the hops of the rule
pub mod Bytes
-- what a block leaves in each part of the carry
pub mod Parts
-- the room for a block's cuts
pub mod Room
