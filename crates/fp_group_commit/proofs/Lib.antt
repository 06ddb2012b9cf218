pub mod Fronts
pub mod Places
pub mod Steps
pub mod Sizes
pub mod BatchSteps
pub mod CompactionSteps
