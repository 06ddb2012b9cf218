pub mod Crossing
pub mod HallCrossing
pub mod PublishCrossing
pub mod Halls
pub mod PlaceLemmas
