pub mod VersionsState
pub mod VersionLists
pub use Rattle.stow_bytes.specs as StowBytes
