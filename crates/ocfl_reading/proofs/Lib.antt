mod Counting
mod Refusals
