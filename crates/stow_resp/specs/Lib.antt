pub mod Extends
pub mod Spans
pub mod Next
pub mod Scans
pub mod Actions
