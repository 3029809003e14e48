pub mod Intervals
pub mod Ops
pub mod Found
pub mod Tiles
pub mod Covered
pub mod Fronts
pub mod Steps
pub mod Over
pub use Rattle.stow_merge.proofs as StowMerge
pub use Rattle.stow_merge.proofs.StowMessage
