pub mod Bounding
pub mod Following
pub mod Noting
pub mod Tallying
