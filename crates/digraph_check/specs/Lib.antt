pub mod Reach
pub mod Closed
pub mod Tree
pub mod Shown
