pub mod Rows
pub mod Enabled
