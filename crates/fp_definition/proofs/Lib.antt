pub mod Canonical
pub mod Beside
pub mod Crossing
pub mod OneOutcome
pub mod Parted
mod Passed
pub mod Refused
pub mod Ruled
pub mod Told
pub mod Timeless
pub mod Spelled
pub mod Said
