pub mod Calls
pub mod Work
