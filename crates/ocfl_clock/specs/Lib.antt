pub mod Clock
pub mod Every
