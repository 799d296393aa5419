mod Zeros
mod Marking
mod Readings
mod Refusals
