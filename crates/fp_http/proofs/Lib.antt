pub mod Gathered
pub mod Fronts
