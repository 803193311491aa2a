pub mod Lanes
pub mod Lengths
pub mod Written
