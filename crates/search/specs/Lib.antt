pub mod Ahead
pub mod Lanes
pub mod Work
