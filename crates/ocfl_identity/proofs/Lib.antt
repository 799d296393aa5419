pub mod Askings
mod Ordered
mod Sums
