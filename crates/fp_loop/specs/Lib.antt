pub mod Courses
pub mod Hearing
pub mod Members
pub mod Peers
pub mod Subscribers
pub mod Talks
pub mod Times
