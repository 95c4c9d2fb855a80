-- the marks that a window and a block show: where they lie
pub mod Seen
-- where the first piece that ends in a block ends
pub mod FirstCut
-- the cut in hand, and the cuts after one in the block
pub mod Moves
-- a block's cuts put into a lent list
pub mod Fills
-- what taking a block answers
pub mod Taken
