pub mod Beside
pub mod Merged
pub mod Moved
pub mod Parts
pub mod Settled
pub mod Taken
