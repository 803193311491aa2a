pub mod Raw
pub mod Names
pub mod Limits
pub mod Header
pub mod Scripts
