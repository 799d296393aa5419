mod Moments
mod Looks
pub mod Chains
mod Sound
pub mod Heard
mod KeptWalks
mod TakingUp
pub mod Foreigners
mod Pieces
mod Extending
pub mod Runs
mod Compared
mod Lost
mod Branches
mod Stopped
mod Newest
mod Whole
mod Beginnings
mod Reasons
mod Lasting
mod RunsRead
pub mod Reading
pub mod Halting
mod Asking
mod Again
mod Cases
