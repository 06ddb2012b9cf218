pub mod Numbers
pub mod Rules
pub mod Head
pub mod State
pub mod Calls
pub mod Laws
