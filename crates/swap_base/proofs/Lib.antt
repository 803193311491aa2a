pub mod Steps
pub mod Lines
pub mod Lists
pub mod Walks
