pub mod Bools
pub mod Listings
pub mod Lists
mod Names
pub mod Orders
pub mod PathOrders
pub mod Paths
pub mod PathNames
pub mod Places
pub mod Reading
pub mod Stores
pub mod Trees
mod CallLaws
mod Cases
