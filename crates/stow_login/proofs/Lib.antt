pub mod Listed
pub mod Shapes
pub mod Valid
pub mod Named
pub mod Same
mod Spelled
