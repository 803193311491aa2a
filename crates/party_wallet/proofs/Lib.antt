pub mod Unspent
pub mod Least
pub mod Stated
pub mod Restored
