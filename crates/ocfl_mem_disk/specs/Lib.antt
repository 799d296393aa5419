pub mod Log
pub mod Showing
pub mod Joining
pub mod Paths
pub mod KeptText
pub mod Closings
pub mod AfterClosings
