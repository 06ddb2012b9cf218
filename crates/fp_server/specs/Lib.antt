pub mod Attends
pub mod Ends
pub mod Tasks
