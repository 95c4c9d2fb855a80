pub mod Forms
pub mod Trailer
pub mod Sheets
pub mod Clean
pub mod Inner
