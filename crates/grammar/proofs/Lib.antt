pub mod Laws
pub mod Checking
