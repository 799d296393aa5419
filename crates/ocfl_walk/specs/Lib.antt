pub mod Ends
pub mod Before
pub mod WalkCalls
pub mod Standing
pub mod Orderly
pub mod Walks
pub mod Internal
