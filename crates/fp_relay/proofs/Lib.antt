pub mod News
pub mod Followed
pub mod Crossing
pub mod Spawning
