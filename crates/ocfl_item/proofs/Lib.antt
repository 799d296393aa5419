pub mod LooksEntries
pub mod NameLaws
pub mod LooksZones
pub mod LooksCalls
mod FileLaws
mod HeadTrails
mod NamedLaws
mod MissingLaws
pub mod WantedLaws
mod ContentLaws
mod PendingLaws
mod LinesLaws
mod PieceLaws
mod DigitLaws
mod ExpectedLaws
mod CostLaws
mod CommonLaws
mod JudgeLaws
mod InventoryLaws
mod HeadLaws
pub mod HeadCalls
pub mod ItemLaws
mod PathItems
pub mod BaseLaws
pub mod VisitLaws
mod VisitPlaces
mod VisitInside
mod VersionItems
mod VersionReads
mod HeadReads
mod HeadOpens
pub mod AuditingLaws
pub mod UpToLaws
pub mod ShutLaws
mod ShortLaws
mod StopLaws
mod NearLaws
mod Cases
