pub mod Blamed
pub mod Courses
pub mod Imported
pub mod Opened
pub mod Told
