pub mod Calls
pub mod SinglePass
