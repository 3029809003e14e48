pub mod SnapshotLemmas
pub mod PinLemmas
pub mod KeptLemmas
