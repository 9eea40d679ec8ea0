pub mod Starred
pub mod Paths
pub mod Walks
pub mod Tunnels
