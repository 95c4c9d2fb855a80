pub mod Xor
pub mod Remainders
pub mod Windows
pub mod Powers
