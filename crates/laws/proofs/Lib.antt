pub mod Bytes
pub mod Cases
pub mod Last
pub mod Sets
pub mod Slices
pub mod Tables
pub mod Writing
