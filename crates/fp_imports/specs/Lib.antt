pub mod Numbers
pub mod Document
pub mod Faults
pub mod Places
pub mod References
pub mod Refers
