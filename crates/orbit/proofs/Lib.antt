pub mod Orbit
pub mod Example
