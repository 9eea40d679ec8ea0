pub mod Walking
pub mod Rule
pub mod Tables
