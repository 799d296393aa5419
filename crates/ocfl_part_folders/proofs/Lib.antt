mod Passing
mod Asked
mod Counted
mod Ends
mod Readable
