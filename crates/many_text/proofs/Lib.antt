pub mod Handing
pub mod Counts
