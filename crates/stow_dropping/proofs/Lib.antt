pub mod FreeDrops
pub mod NextNumbers
pub mod WalkedRows
pub mod WholeDrops
pub mod SoFar
pub mod Shown
pub use Rattle.stow_tree.proofs.StowMerge
pub use Rattle.stow_tree.proofs as StowTree
