pub mod Parents
pub mod Tables
