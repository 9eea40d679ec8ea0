pub mod Bits
pub mod Number
pub mod Text
pub mod Work
