pub mod Heads
pub mod Sifting
pub mod Speaking
-- What private functions say: a reader of the public contracts needs none of it.
pub mod Internal
