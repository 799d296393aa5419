pub mod Ending
pub mod Runs
