pub mod PinLists
pub mod Pins
pub mod KeptVersion
pub mod Cuts
pub mod Pages
pub mod Writing
pub mod Mergeable
pub mod FlushJobs
pub mod Covering
pub mod OneKey
pub mod Parts
pub use Rattle.stow_page.specs.StowBytes
pub use Rattle.stow_message.specs as StowMessage
pub use Rattle.stow_page.specs as StowPage
pub use Rattle.stow_page.specs.StowTreeModel
