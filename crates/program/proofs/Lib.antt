mod Reading
mod Opening
pub mod Whole
pub mod Pages
pub mod Worked
