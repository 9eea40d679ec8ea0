pub mod Laws
mod Lanes
