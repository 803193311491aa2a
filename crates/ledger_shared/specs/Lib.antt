pub mod Lines
pub mod Value
pub mod Seat
pub mod Pass
