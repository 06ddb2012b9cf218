pub mod Numbers
pub mod Places
pub mod Hall
pub mod Editors
