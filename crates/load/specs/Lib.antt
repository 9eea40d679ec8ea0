pub mod Loading
pub mod Answers
pub mod Work
