pub mod Fields
pub mod Sized
pub mod Writable
pub mod Making
pub mod Offered
pub mod Counted
