mod Refusals
mod Shown
mod Plans
