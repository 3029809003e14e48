pub mod Text
pub mod Script
pub mod Read
pub use Rattle.stow_login.specs as StowLogin
