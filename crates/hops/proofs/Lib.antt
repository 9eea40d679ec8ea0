pub mod Bounds
pub mod Words
pub mod Laws
pub mod Agreement
