pub mod Walks
pub mod Writing
pub mod Rings
pub mod Past
pub mod Quiet
pub mod Notes
pub mod Answering
