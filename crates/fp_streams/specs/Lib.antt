pub mod Failures
pub mod Said
