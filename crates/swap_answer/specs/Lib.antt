pub mod Sliced
pub mod Words
pub mod Answered
