mod Joined
mod Compared
mod Putting
mod Beside
mod Naming
mod Endings
mod Telling
