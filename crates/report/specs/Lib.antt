pub mod Report
pub mod Tables
pub mod Work
