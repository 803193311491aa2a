pub mod Signed
pub mod Replies
pub mod Replays
pub mod OnlyAccepted
