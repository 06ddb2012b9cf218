pub mod Heads
pub mod Frames
pub mod Reading
pub mod Decoding
pub mod Steps
pub mod Founds
pub mod Hellos
pub mod Watching
