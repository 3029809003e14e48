pub mod Format
pub mod Rows
pub mod FaultNumber
pub mod Faults
pub mod Form
pub mod Laws
pub use Rattle.stow_tree_model.specs.StowBytes
pub use Rattle.stow_tree_model.specs as StowTreeModel
