pub mod MemTree
pub mod MemSystem
pub mod MemWatch
pub mod Faults
pub mod Internal
