pub mod Naming
pub mod Work
