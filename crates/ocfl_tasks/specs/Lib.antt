pub mod Calls
pub mod Tasks
pub mod Showing
