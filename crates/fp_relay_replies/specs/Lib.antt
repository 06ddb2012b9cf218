pub mod CrossOrigin
pub mod Asking
pub mod Answers
pub mod Metrics
pub mod Status
