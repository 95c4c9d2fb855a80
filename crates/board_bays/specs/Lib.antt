pub mod Segments
pub mod Bays
pub mod Judging
pub mod Inner
