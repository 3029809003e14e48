pub mod Held
pub use Rattle.stow_page.proofs as StowPage
pub use Rattle.stow_page.proofs.StowTreeModel
