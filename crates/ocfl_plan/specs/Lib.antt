pub mod Budgeted
pub mod Plan
pub mod Status
pub mod Hearing
pub mod Telling
pub mod Stopping
