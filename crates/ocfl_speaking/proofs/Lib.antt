mod HeadLines
mod Steps
mod Passes
mod Reasoned
mod Kept
mod Cuts
