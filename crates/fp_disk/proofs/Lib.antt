pub mod Keeping
pub mod Writing
pub mod Answering
pub mod Crashing
