pub mod Counting
pub mod Laws
pub mod Form
