pub mod Actions
pub mod Landing
pub mod Asker
