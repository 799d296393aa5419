pub mod Weight
pub mod Inventories
pub mod Kinds
pub mod Meaning
pub mod Table
pub mod Json
