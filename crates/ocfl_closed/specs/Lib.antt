pub mod Files
pub mod Cut
pub mod Back
pub mod Losing
pub mod Taken
pub mod Unchanged
pub mod Words
-- What private functions say: a reader of the public contracts needs none of it.
pub mod Internal
