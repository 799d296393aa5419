pub mod Noted
pub mod Shown
pub mod Counted
pub mod Kept
pub mod News
pub mod Held
