pub mod Changes
pub mod Tokens
pub mod Store
pub mod Inside
pub mod Calls
pub mod Sound
