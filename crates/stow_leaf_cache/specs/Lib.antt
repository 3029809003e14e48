pub mod Cache
pub mod Lent
pub use Rattle.stow_page.specs.StowBytes
pub use Rattle.stow_page.specs as StowPage
pub use Rattle.stow_page.specs.StowTreeModel
