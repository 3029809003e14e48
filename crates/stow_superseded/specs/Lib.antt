pub mod Superseded
pub mod Hidden
pub mod Passes
pub mod Laws
