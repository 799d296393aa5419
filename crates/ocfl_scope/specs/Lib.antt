pub mod Numbered
pub mod Finding
pub mod Stop
