pub mod Separators
pub mod Parts
pub mod Stop
pub mod Costs
pub mod Splits
pub mod SplitStop
pub mod Internal
