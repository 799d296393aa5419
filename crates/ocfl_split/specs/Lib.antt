pub mod Levels
pub mod Splitting
pub mod Reported
pub mod Internal
