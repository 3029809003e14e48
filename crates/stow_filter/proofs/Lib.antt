pub mod Covered
pub mod Marked
