pub mod Reasons
pub mod Names
pub mod PowerCut
pub mod Disk
pub mod Leaving
pub mod Losing
pub mod Internal
