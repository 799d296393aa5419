pub mod SidecarLaws
mod Sidecars
mod Declarations
mod Blocks
mod BlockChains
mod Stops
mod Stopped
pub mod Runs
pub mod Once
mod Beginnings
mod TextOrder
mod PathTexts
mod SeenRuns
mod FoldedTexts
mod Kept
mod TableSearch
mod Gatherings
mod Loops
mod Members
pub mod TripleOrders
mod Inventories
mod SharedFronts
mod Fits
mod Cases
