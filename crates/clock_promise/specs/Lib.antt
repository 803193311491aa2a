pub mod Polls
pub mod Mindful
pub mod Laws
