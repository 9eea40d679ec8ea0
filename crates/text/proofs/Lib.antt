pub mod Skipping
pub mod Sections
pub mod Marking
pub mod Dumps
pub mod Bodies
pub mod Counting
pub mod Answers
pub mod Small
