mod Passing
mod ContentSteps
mod Quiets
mod Fronts
mod Reporting
mod Syncing
mod Folders
pub mod Losing
