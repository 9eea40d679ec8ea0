pub mod Example
mod Laws
