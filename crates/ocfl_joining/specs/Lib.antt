pub mod Missing
pub mod Folders
pub mod Reports
pub mod Crash
pub mod Joined
pub mod Audited
pub mod Stops
pub mod Memory
pub mod Within
pub mod Facts
pub mod Status
pub mod Cycles
pub mod Saying
pub mod Failing
-- What private functions say: a reader of the public contracts needs none of it.
pub mod Internal
