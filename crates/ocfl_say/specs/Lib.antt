pub mod Said
pub mod Memory
