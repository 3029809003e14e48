pub mod Making
pub use Rattle.stow_node.proofs.StowLeaf
pub use Rattle.stow_node.proofs.StowLeafCache
pub use Rattle.stow_node.proofs.StowMerge
pub use Rattle.stow_node.proofs.StowMessage
pub use Rattle.stow_node.proofs as StowNode
