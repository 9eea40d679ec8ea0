pub mod Rows
pub mod Packed
pub mod Found
pub mod Tables
