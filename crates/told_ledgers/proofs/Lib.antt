pub mod Words
pub mod Kept
pub mod Ledgers
pub mod Ticks
pub mod Taken
