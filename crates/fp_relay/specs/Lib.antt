pub mod Backoff
pub mod Following
pub mod Ends
pub mod Counting
