pub mod Fewer
pub mod Passing
pub mod Hiding
pub mod HiddenOnes
pub mod Meaning
