pub mod Numbers
pub mod Faults
pub mod Documents
pub mod Disks
pub mod Task
pub mod Files
pub mod Eval
