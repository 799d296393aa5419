pub mod Line
pub mod Budget
pub mod TimeOfDay
pub mod Asks
pub mod Stop
pub mod Internal
