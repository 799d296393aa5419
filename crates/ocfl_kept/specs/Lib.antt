pub mod Standing
pub mod Lent
pub mod Keeping
pub mod FilePaths
pub mod Refusing
