pub mod Devices
pub mod Places
pub mod Rules
pub mod Words
pub mod Work
