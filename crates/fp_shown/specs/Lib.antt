pub mod Sets
pub mod Scan
pub mod Reading
pub mod Laws
