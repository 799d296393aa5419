pub mod System
pub mod Noted
pub mod Faults
pub mod Internal
