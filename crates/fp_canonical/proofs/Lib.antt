mod Cuts
pub mod Digits
mod Escaped
mod Escapes
mod Exact
pub mod Leads
pub mod Next
pub mod Read
mod Runs
