pub mod Fault
pub mod Lists
pub mod Text
