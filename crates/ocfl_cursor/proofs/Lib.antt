pub mod Options
pub mod Texts
pub mod Seals
mod Numbers
mod Rules
mod Paths
pub mod CursorTexts
pub mod Refusals
pub mod PartTexts
pub mod PartRefusals
mod Limited
pub mod PartLimited
mod ShownTexts
pub mod StoredLines
pub mod OnLiterals
mod CursorCases
