pub mod Subtree
pub mod Parts
pub mod Nodes
pub mod Heights
pub mod Moves
pub mod Halves
pub mod Flushes
pub mod Regroups
pub mod Rooms
pub mod Ways
pub mod TakesDown
pub mod Jobs
pub mod Installs
pub mod Eases
pub mod Plans
pub mod Superseded
pub use Rattle.stow_leaves.specs.StowLeaf
pub use Rattle.stow_leaves.specs.StowLeafCache
pub use Rattle.stow_leaves.specs as StowLeaves
pub use Rattle.stow_leaves.specs.StowMerge
pub use Rattle.stow_leaves.specs.StowMessage
pub use Rattle.stow_leaves.specs.StowPage
pub use Rattle.stow_superseded.specs as StowSuperseded
pub use Rattle.stow_tree_model.specs as StowTreeModel
