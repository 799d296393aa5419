-- What private functions and fields say: a reader of the public contracts needs none of it.
pub mod Standing
pub mod Walking
pub mod Entering
pub mod Finding
