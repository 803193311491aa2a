pub mod Making
pub mod Generating
pub mod Counts
pub mod Summary
