pub mod Receive
pub mod Tables
pub mod Work
