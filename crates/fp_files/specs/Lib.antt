pub mod Openings
pub mod Lending
pub mod Locks
