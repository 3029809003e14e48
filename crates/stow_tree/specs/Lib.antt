pub mod Shapes
pub mod TreeState
pub mod Putting
pub mod Reports
pub use Rattle.stow_flush.specs.StowLeaf
pub use Rattle.stow_flush.specs.StowLeafCache
pub use Rattle.stow_flush.specs.StowMerge
pub use Rattle.stow_flush.specs.StowMessage
pub use Rattle.stow_flush.specs.StowNode
pub use Rattle.stow_read.specs as StowRead
