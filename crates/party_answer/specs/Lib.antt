pub mod Unkept
pub mod Stale
pub mod Lines
pub mod Text
pub mod Inside
pub mod Growing
pub mod Promised
