pub mod Numbers
pub mod Document
pub mod Entries
pub mod Flags
pub mod Outline
