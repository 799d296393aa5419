mod Closings
mod Logged
