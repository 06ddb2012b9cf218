pub mod Sets
pub mod Batches
pub mod Calls
pub mod Steps
