-- What private functions and fields say: a reader of the public contracts needs none of it.
pub mod Lines
pub mod Content
pub mod HeadFiles
pub mod HeadLines
pub mod FileLines
pub mod Ways
pub mod Visiting
