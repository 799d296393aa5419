pub mod Calls
pub mod Rows
pub mod Logging
pub mod Begun
pub mod Noting
pub mod Ending
