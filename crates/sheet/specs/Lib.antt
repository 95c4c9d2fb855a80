pub mod Write
pub mod Read
pub mod Answers
