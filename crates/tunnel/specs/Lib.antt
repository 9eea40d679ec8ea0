pub mod Tunnels
pub mod Words
pub mod Plans
pub mod Work
