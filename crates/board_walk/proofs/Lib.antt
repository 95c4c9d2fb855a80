-- offsets read one by one, and the cuts forced below them
pub mod Offsets
-- offsets that rise
pub mod Rises
-- what reading leaves in the list
pub mod Walks
-- where the last cut of a walk lies
pub mod Lasts
-- the walk bay by bay, and its end
pub mod BayWalks
