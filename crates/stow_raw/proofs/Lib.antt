pub mod Blocks
pub mod Rows
pub mod Steps
pub mod WordLists
pub mod Written
