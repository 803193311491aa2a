pub mod Lines
pub mod Lists
pub mod Chains
pub mod Ranges
pub mod ReadNumbers
pub mod Crafters
pub mod Stands
pub mod Made
