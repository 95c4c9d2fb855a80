pub mod Recording
pub mod Merging
pub mod Inner
