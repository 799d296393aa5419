-- The worked cases: what the definitions say of small trees, of cursors, of notes and of calls.
pub mod Said
pub mod Notes
pub mod Runs
pub mod Starts
pub mod Chains
pub mod Taken
pub mod Commands
