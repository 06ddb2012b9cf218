pub mod DiskCrossing
