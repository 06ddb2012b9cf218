pub mod Newest
pub mod Outgoing
