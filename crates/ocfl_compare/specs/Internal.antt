pub mod Reading
pub mod Summing
pub mod Turns
pub mod Listing
pub mod Gones
pub mod Seeing
