pub mod Alike
pub mod ByteKeys
pub mod Words
