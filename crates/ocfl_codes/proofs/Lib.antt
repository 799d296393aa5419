mod Inventories
pub mod Weights
mod Rows
mod Tables
