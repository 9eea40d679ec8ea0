pub mod InColumns
pub mod Packed
