pub mod Answers
pub mod Outcomes
pub mod Editing
pub mod Sending
