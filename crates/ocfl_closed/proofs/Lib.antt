mod Findings
pub mod Losing
mod Marks
mod NotedIn
pub mod Passing
mod Pushing
mod Putting
mod Reading
mod Changeless
mod Checking
mod Ends
mod Opened
mod Lost
mod Backing
mod Partings
mod ByPlaces
mod HeldIn
mod RowTexts
mod Saying
