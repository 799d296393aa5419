pub mod Numbers
mod Parts
mod LastClosed
mod Copies
mod Decoded
mod Audits
mod ClosedLaws
mod Cycling
pub mod Stopping
mod Passing
mod Stays
mod Makes
mod Memories
mod Sayings
