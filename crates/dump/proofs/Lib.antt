pub mod Groups
pub mod Lines
pub mod Reading
pub mod Sorting
pub mod Order
pub mod Buckets
pub mod Bytes
pub mod Dealing
