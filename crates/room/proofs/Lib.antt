pub mod Lines
pub mod LineStarts
pub mod Enough
