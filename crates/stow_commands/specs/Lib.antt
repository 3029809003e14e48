pub mod Commands
pub mod Outcomes
pub mod Numbers
pub use Rattle.stow_model.specs.StowBytes
pub use Rattle.stow_model.specs as StowModel
