pub mod Grammar
pub mod Work
