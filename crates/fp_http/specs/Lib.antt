pub mod Responses
pub mod Asking
pub mod Gathering
pub mod Answering
