mod Calling
mod Naming
mod Named
mod Parted
mod Closing
