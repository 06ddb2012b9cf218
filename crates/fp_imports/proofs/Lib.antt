pub mod Flags
pub mod Orders
pub mod Places
pub mod Targetings
pub mod Walks
pub mod Standing
