pub mod HeadBytes
pub mod Streams
pub mod Same
pub mod Hellos
pub mod Feeding
pub mod Watched
