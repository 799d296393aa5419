pub mod Making
pub mod Coming
