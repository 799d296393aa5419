pub mod Shown
pub mod Comparing
pub mod Cycles
-- What private functions say: a reader of the public contracts needs none of it.
pub mod Internal
