pub mod Telling
mod Reported
pub mod Pipes
