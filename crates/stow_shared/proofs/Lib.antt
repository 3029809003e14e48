pub mod Legal
pub mod Added
pub mod Steps
pub mod Receipts
pub mod Sums
pub mod Seating
pub mod Desking
pub mod Sends
pub use Rattle.stow_house.proofs as StowHouse
