mod Commands
mod Digits
mod Ends
mod Numbers
mod Units
mod Stops
mod Cases
