pub mod Entries
pub mod Formats
pub mod Packing
pub mod Pushed
pub mod Sizes
pub mod Anew
pub mod Looked
pub mod Fields
pub mod Pages
pub mod Unique
pub mod Whole
pub mod OneField
pub mod Joined
pub mod Marked
pub mod Noting
pub mod Taken
pub use Rattle.stow_tree_model.proofs as StowTreeModel
