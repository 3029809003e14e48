pub mod Counted
pub mod Sets
pub mod Lowest
pub mod Put
pub mod Putting
pub mod Totalled
pub mod Held
pub mod Lost
pub mod Made
pub mod Read
pub mod Sends
pub mod Planned
pub mod PagesIn
pub use Rattle.stow_flush.proofs.StowMerge
pub use Rattle.stow_read.proofs as StowRead
