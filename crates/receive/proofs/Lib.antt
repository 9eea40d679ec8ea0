pub mod Lanes
pub mod Hops
pub mod Looking
pub mod Search
