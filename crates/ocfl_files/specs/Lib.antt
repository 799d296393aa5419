pub mod Failing
pub mod Hearing
pub mod Paths
pub mod Reasons
