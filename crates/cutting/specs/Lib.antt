pub mod Marks
pub mod Search
pub mod Calls
