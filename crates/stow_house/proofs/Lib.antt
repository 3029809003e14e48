pub mod Pipelines
pub mod Tenants
pub mod Stood
pub mod Hearing
pub mod Here
pub mod Runs
pub mod Flushed
pub use Rattle.stow_core.proofs as StowCore
pub use Rattle.stow_core.proofs.StowLogin
pub use Rattle.stow_core.proofs.StowState
