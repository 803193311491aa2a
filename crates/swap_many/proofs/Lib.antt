-- Lemmas, each file above those that it stands on.

-- what the histories of chains show, and what is kept of them
pub mod Projections
pub mod Tick
pub mod Landed
pub mod Follow
pub mod Sums
pub mod Over
pub mod Clocks
pub mod Units
pub mod Finish
pub mod On
pub mod Way
pub mod Along
pub mod Opened
pub mod Accounts
pub mod Fits
-- many worlds, step by step and in loops
pub mod Values
pub mod Happened
pub mod Chained
pub mod Each
pub mod Rows
pub mod Gone
pub mod Emptied
pub mod Turning
pub mod Ticked
pub mod Nearby
pub mod Still
pub mod Skips
pub mod InTurn
pub mod Dealt
pub mod Advancing
pub mod Runs
pub mod Begun
pub mod Starting
