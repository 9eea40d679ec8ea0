pub mod Places
pub mod Calls
pub mod Named
pub mod Order
pub mod OwnTable
