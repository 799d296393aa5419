pub mod Versions
pub mod Changes
pub mod Seen
pub mod Gone
pub mod Compared
pub mod CompareStop
pub mod Listed
pub mod Expected
-- What private functions and fields say: a reader of the public contracts needs none of it.
pub mod Internal
