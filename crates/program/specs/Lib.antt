pub mod Program
pub mod Opened
pub mod Written
pub mod Work
