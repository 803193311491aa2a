pub mod Reach
pub mod Acts
pub mod Quick
pub mod OnTime
pub mod Mindful
