pub mod Named
pub mod Work
