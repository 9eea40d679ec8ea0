pub mod Names
pub mod Words
pub mod Put
pub mod Work
