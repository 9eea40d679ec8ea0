pub mod Scan
pub mod Work
