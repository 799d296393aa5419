pub mod Copying
pub mod Cycling
