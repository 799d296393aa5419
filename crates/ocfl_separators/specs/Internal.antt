-- What private functions and fields say: a reader of the public contracts needs none of it.
pub mod Cutting
