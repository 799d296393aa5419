pub mod Images
mod Histories
mod CheckpointFields
pub mod CheckpointTexts
mod CheckpointRefusals
mod CheckpointWriting
mod CheckpointShowing
pub mod PieceLaws
mod Readings
mod SummaryLaws
mod Resuming
mod FoundReports
mod Marks
mod CheckpointCases
