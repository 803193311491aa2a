pub mod SeatHistory
pub mod Turns
pub mod Value
