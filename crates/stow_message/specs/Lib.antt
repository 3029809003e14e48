pub mod Laws
pub mod Filter
pub mod MessageBuf
pub mod Packed
pub mod Rising
