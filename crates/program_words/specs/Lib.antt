pub mod Parsed
pub mod Tables
pub mod Words
