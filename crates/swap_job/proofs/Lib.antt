pub mod Opened
pub mod Crafting
pub mod Usable
pub mod Idle
