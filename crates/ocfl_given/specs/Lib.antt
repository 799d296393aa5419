pub mod Refusing
pub mod Overlap
pub mod Ends
pub mod Given
pub mod Waiting
pub mod Planning
