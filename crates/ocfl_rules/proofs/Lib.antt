pub mod AfterLaws
pub mod AuditExists
mod AuditLaws
pub mod BelowLaws
pub mod BoundLaws
pub mod DueLaws
pub mod Lists
pub mod MachineLaws
pub mod NextLaws
pub mod PathLaws
mod PublicLaws
pub mod StackLaws
pub mod StepLaws
pub mod Trails
pub mod UnreadLaws
mod WalkLaws
pub mod WayLaws
pub mod BetweenLaws
pub mod ObjectLaws
pub mod MetaLaws
mod LookLaws
pub mod RunLaws
pub mod PartLaws
pub mod ApartLaws
pub mod BranchLaws
pub mod FurtherLaws
pub mod InventoryLaws
pub mod Cases
