pub mod Forgotten
pub mod Joined
pub mod Pairs
pub mod Fences
pub mod Replaced
pub mod Parted
pub mod GivenWay
pub use Rattle.stow_leaf.proofs as StowLeaf
pub use Rattle.stow_leaf_cache.proofs as StowLeafCache
pub use Rattle.stow_leaf.proofs.StowMerge
pub use Rattle.stow_leaf.proofs.StowMessage
pub use Rattle.stow_leaf_cache.proofs.StowPage
