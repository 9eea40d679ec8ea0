pub mod Going
pub mod Planning
pub mod Ring
pub mod Example
