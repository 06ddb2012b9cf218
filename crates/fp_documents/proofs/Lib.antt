pub mod Maps
pub mod Patched
pub mod Sizes
pub mod Texts
