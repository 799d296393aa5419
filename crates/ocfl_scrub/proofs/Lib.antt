pub mod Lists
pub mod AuditsJoined
pub mod TakeLaws
mod CheckLaws
mod BetweenLaws
pub mod PartStarts
mod Passing
pub mod PassLaws
mod LoopLaws
mod LookLaws
pub mod AuditLaws
mod AuditTurns
pub mod OrderLaws
pub mod CutLaws
pub mod PartLaws
mod NextLaws
pub mod RunPlaces
pub mod RunsJoined
pub mod CycleEndLaws
pub mod DirectoryLaws
mod ChainRuns
pub mod ChainLaws
pub mod ChainHeadline
pub mod ChainParts
mod CycleLoop
mod MeterLaws
pub mod WayOrder
mod AheadLaws
mod WayListed
mod Paying
mod PayLaws
mod AlikeLaws
mod LookedLaws
mod RunTurns
mod KeptLaws
mod KeptTurns
pub mod RunLaws
mod PerformLaws
mod ScopeLaws
pub mod CycleRuns
pub mod KeptRuns
mod Cases
