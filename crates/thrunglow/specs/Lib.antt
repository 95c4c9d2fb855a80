pub mod Outcomes
pub mod Pass
pub mod Amends
pub mod Sheets
