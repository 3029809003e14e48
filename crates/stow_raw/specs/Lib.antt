pub mod Cells
pub mod CellsLends
pub mod Frees
pub mod Laid
pub mod Lease
pub mod RawBuf
pub mod Words
