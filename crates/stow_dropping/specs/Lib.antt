pub mod Dropping
pub mod Free
pub mod Parts
pub use Rattle.stow_tree.specs.StowLeaf
pub use Rattle.stow_tree.specs.StowLeafCache
pub use Rattle.stow_tree.specs.StowMerge
pub use Rattle.stow_tree.specs.StowMessage
pub use Rattle.stow_tree.specs.StowNode
pub use Rattle.stow_tree.specs.StowRead
pub use Rattle.stow_tree.specs as StowTree
