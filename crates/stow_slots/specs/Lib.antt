pub mod Young
pub use Rattle.stow_raw.specs as StowRaw
