pub mod Pairs
pub mod Failing
pub mod Swaps
pub mod Walks
pub mod Placed
pub mod Coming
pub mod Opening
