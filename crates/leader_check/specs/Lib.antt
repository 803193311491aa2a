pub mod Followers
pub mod Levels
pub mod Cycles
pub mod Shown
pub mod Laws
pub mod Distance
pub mod DistanceLaws
