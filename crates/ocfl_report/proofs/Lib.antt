pub mod Bytes
pub mod Separators
pub mod Numbers
pub mod Escapes
pub mod Encoded
pub mod CodeTexts
pub mod PlaceTexts
pub mod ReadPaths
mod Parts
pub mod Inputs
mod PathTexts
pub mod LineTexts
mod Fields
mod Growing
mod FindingLaws
mod Cases
