pub mod Keys
pub mod Op
pub mod TreeMessage
pub mod Value
pub mod Version
pub mod Order
pub mod Operations
pub mod Messages
pub mod Agreement
pub mod Merged
pub mod Intervals
pub mod NumberedValue
pub mod Pin
pub mod VersionBuf
pub mod Zipped
pub mod Examples
pub use Rattle.stow_bytes.specs as StowBytes
