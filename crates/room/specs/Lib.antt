pub mod Records
pub mod Work
