pub mod Courses
pub mod Keeps
pub mod Moments
pub mod Out
pub mod Rooms
pub mod Seals
pub mod Sound
pub mod Ways
