pub mod Faults
pub mod LawLemmas
pub mod Lists
pub mod Parts
pub mod Utf8
pub mod Written
pub mod TagLemmas
