pub mod Adapter
pub mod Paths
pub mod Work
