pub mod Mapped
pub mod Copies
pub mod Charged
pub mod Kept
pub mod Stepped
pub mod Within
