pub mod Words
pub use Rattle.stow_tree.specs as StowTree
