pub mod Packed
pub mod Orders
pub mod Latest
pub mod SetLemmas
pub mod Falling
pub mod Ordered
pub mod Histories
pub mod Merges
pub mod PackedOrder
pub mod Pruning
pub mod Zipped
pub mod Folds
pub mod Readings
pub mod Examples
pub mod Rising
pub use Rattle.stow_bytes.proofs as StowBytes
