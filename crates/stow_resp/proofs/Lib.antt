pub mod Lists
pub mod Lines
pub mod Inlines
pub mod Elements
pub mod Streams
