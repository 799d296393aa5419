pub mod Algorithm
pub mod Digest
pub mod Wanted
pub mod Digests
pub mod Stop
pub mod Hashing
pub mod Bounded
pub mod Internal
