mod Cases
mod Firsts
mod KeptLines
pub mod Marking
mod Shown
mod Settling
