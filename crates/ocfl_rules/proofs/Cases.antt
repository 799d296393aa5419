-- The worked cases: what the audit says of small trees, computed by the definitions.
pub mod Trees
pub mod OnLiterals
pub mod RightSidecars
pub mod QuietHeads
pub mod Quiet
pub mod Root
pub mod Head
pub mod Path
pub mod Content
pub mod Unread
pub mod Run
pub mod Part
pub mod Object
pub mod Meta
pub mod Inventories
pub mod Walk
pub mod Pieces
