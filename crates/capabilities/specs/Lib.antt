pub mod Capability
pub mod Work
