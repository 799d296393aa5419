pub mod Failures
mod Reasoning
mod Slashes
