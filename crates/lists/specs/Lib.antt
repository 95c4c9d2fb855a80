pub mod WellFormed
pub mod Puts
pub mod Written
