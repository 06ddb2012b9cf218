pub mod Following
pub mod Noted
pub mod Tallies
