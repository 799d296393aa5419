pub mod Beside
pub mod Gathered
pub mod ListsOf
pub mod Parts
pub mod ReadInventory
pub mod SharedFront
pub mod TripleOrder
