pub mod Heads
pub mod Part
