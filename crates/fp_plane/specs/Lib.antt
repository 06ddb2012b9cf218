pub mod Telling
pub mod Flushing
pub mod Lying
