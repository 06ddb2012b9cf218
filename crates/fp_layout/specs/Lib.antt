pub mod Numbers
pub mod Size
pub mod Layout
pub mod Faults
pub mod Opening
pub mod Opens
pub mod Fronts
pub mod NewDisk
