pub mod Bytes
pub mod Last
pub mod Over
pub mod Tables
