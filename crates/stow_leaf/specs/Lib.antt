pub mod Intervals
pub mod LeafRows
pub mod Making
pub mod Replacements
pub use Rattle.stow_merge.specs as StowMerge
pub use Rattle.stow_merge.specs.StowMessage
