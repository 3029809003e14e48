pub mod Read
pub mod Lines
pub mod Written
pub mod Ends
pub mod Pipes
pub mod Told
pub mod Entered
pub use Rattle.stow_workers.specs.StowCore
pub use Rattle.stow_model.specs as StowModel
pub use Rattle.stow_workers.specs.StowShared
pub use Rattle.stow_workers.specs as StowWorkers
