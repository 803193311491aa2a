pub mod Loops
pub mod Indexed
pub mod Promises
