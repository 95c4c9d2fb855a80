pub mod Carries
pub mod Outcomes
