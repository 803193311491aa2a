pub mod Push
pub mod Ticks
pub mod Calls
pub mod Bounds
pub mod Legal
pub mod Extending
