pub mod Rule
pub mod Ends
