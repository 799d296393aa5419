pub mod Around
pub mod Nights
pub mod Readings
pub mod Times
pub mod Halts
