pub mod Reading
pub mod Counting
pub mod Folder
pub mod Refusing
pub mod Joining
