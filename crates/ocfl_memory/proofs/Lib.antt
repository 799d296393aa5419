mod Changes
mod Listings
mod Lists
mod Seen
mod Systems
mod Trees
mod Watches
