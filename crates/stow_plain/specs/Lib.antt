pub mod PlainMap
pub mod Contents
pub mod OwnRun
