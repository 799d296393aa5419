pub mod Orders
pub mod PartsTexts
mod Limited
mod Numbers
mod Cuts
pub mod Reports
pub mod ItemCuts
mod Cases
