pub mod Spent
pub mod Units
pub mod Found
pub mod Heights
