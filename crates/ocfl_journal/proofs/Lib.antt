mod Lines
mod Texts
mod Begins
