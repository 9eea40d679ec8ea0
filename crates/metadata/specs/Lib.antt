pub mod Calls
pub mod Ours
pub mod Work
