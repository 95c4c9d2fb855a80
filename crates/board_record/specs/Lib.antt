pub mod Records
pub mod Told
pub mod Stretches
