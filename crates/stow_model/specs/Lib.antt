pub mod Spans
pub mod LentWords
pub mod Texts
pub mod Message
pub mod Item
pub mod Items
pub mod Reply
pub mod Event
pub mod Wire
pub mod NumberText
pub mod Command
pub mod Login
pub mod Store
pub mod History
pub mod Parts
pub mod Reader
pub mod Examples
pub use Rattle.stow_bytes.specs as StowBytes
