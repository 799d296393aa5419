mod AnyNights
mod Around
mod Clocks
mod Halts
mod Missing
mod Readings
mod Reasons
