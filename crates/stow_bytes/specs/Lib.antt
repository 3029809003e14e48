pub mod Bytes
pub mod Limits
pub mod Words
