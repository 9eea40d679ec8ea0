pub mod Dump
pub mod Sort
pub mod Work
