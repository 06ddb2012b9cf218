pub mod Images
pub mod Kept
pub mod Grown
pub mod Stepping
