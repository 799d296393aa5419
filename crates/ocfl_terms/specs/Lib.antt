pub mod Clock
pub mod Counting
pub mod Output
pub mod Status
