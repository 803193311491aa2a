mod Bytes
mod Crash
mod Moments
mod Tells
mod Head
mod Locks
mod Finds
mod Stays
mod Fates
mod Keeping
mod Writes
mod Moment
mod Holds
mod Overlay
pub mod Stops
mod First
