pub mod Answering
pub mod Naming
pub mod Writing
