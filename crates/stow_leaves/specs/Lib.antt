pub mod Absorbs
pub mod AbsorbsAll
pub mod Forgets
pub mod Joins
pub use Rattle.stow_leaf.specs as StowLeaf
pub use Rattle.stow_leaf_cache.specs as StowLeafCache
pub use Rattle.stow_leaf.specs.StowMerge
pub use Rattle.stow_leaf.specs.StowMessage
pub use Rattle.stow_leaf_cache.specs.StowPage
