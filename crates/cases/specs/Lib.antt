pub mod Cases
pub mod Stored
