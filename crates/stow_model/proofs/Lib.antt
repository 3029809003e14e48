pub mod Spans
pub mod ItemSpans
pub mod Spelling
pub mod Numbers
pub mod Bulks
pub mod Messages
pub mod Inlines
pub mod Places
pub mod Alone
pub mod Refused
pub mod OneHistory
pub mod Fronts
pub mod Examples
pub use Rattle.stow_bytes.proofs as StowBytes
