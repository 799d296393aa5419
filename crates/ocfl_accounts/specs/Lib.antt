pub mod Cycle
pub mod Sights
pub mod Kept
pub mod Crash
pub mod Causes
pub mod Pairs
pub mod Changes
pub mod Unsaid
pub mod Telling
pub mod Rounds
pub mod Calls
pub mod Memory
-- What private functions say: a reader of the public contracts needs none of it.
pub mod Search
