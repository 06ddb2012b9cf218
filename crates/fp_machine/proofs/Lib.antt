pub mod Stacks
pub mod Joined
pub mod Machines
pub mod Frugal
pub mod OneResult
pub mod Paths
pub mod Crossing
