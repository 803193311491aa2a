pub mod Ranges
pub mod Faults
pub mod Distinct
pub mod Paths
pub mod LeaderPaths
