pub mod Costs
pub mod RowLemmas
pub mod WriteLemmas
pub mod DropLemmas
pub mod HistoryLemmas
pub mod KeptLemmas
pub mod TreeHistory
pub use Rattle.stow_state.proofs as StowState
