pub mod Charges
pub mod Accounts
pub mod Shown
pub mod Histories
pub mod Kept
pub use Rattle.stow_state.specs.StowModel
pub use Rattle.stow_state.specs as StowState
