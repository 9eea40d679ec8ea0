pub mod Rules
pub mod Work
