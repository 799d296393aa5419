pub mod EndLaws
pub mod BeforeLaws
pub mod NextLaws
mod TurnLaws
mod DueTurns
mod StandLaws
mod Backs
mod PlacedLaws
mod OrderlyLaws
mod Chosen
mod EntrySteps
mod BehindLaws
mod SizeLaws
mod PathSteps
mod MeetLaws
mod ListingLaws
mod StartLaws
mod FilterLaws
mod KeepLaws
mod DescentLaws
mod DownLaws
mod HierarchyDown
mod LeadsLaws
pub mod ReachLaws
mod BroughtLaws
mod EnterLaws
pub mod WalkCallLaws
mod OrderlyTests
mod WalkWords
pub mod OnWay
mod FindLaws
pub mod FoundLaws
mod StandSteps
pub mod HolderLaws
pub mod WayDownLaws
mod CutLaws
mod FirstSteps
mod Cases
