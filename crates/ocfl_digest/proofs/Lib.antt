pub mod Names
mod HashersLemmas
mod HashingLemmas
mod BoundedLemmas
mod Cases
