pub mod ListTests
pub mod Walks
pub mod Paths
pub mod Turned
pub mod Grown
pub mod ClosedSets
pub mod Answered
