pub mod Outcomes
pub mod Services
