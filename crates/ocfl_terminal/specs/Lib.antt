pub mod Paths
pub mod Naming
pub mod Absolute
pub mod Words
pub mod Chosen
pub mod Progress
pub mod Status
