pub mod Layout
pub mod Description
