pub mod Rooms
pub use Rattle.stow_node.specs.StowLeaf
pub use Rattle.stow_node.specs.StowLeafCache
pub use Rattle.stow_node.specs.StowLeaves
pub use Rattle.stow_node.specs.StowMerge
pub use Rattle.stow_node.specs.StowMessage
pub use Rattle.stow_node.specs as StowNode
