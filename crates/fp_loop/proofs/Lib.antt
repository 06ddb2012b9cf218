pub mod Courses
pub mod Slots
pub mod Talking
pub mod Telling
pub mod Turns
