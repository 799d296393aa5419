pub mod Whole
pub mod Openings
pub mod Joined
pub mod Handing
