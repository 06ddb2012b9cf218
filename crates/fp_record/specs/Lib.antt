pub mod Numbers
pub mod Group
pub mod Fields
pub mod WellFormed
pub mod Laws
pub mod Reading
pub mod Encoding
