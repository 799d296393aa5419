mod Statuses
mod Begun
