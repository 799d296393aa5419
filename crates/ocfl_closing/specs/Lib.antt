pub mod Calls
pub mod Closing
pub mod Naming
pub mod Comparing
pub mod Logging
pub mod Listing
