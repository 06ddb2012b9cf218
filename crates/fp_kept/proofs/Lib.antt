pub mod OneFrame
pub mod Digests
