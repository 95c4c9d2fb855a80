pub mod Settings
pub mod Refusals
pub mod Labels
pub mod Answers
pub mod Rows
