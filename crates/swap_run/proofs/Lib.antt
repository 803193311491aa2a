pub mod Replays
pub mod Naming
pub mod Answering
pub mod Scripts
-- Lemmas, each file above those that it stands on.

-- steps and runs
pub mod Entries
pub mod Noted
pub mod Crashes
pub mod Plans
pub mod Good
-- turns
pub mod Repeats
pub mod Along
pub mod Slots
pub mod Acts
pub mod Turns
-- rounds and the finish
pub mod Ticks
pub mod Rounds
pub mod Finish
pub mod Quiet
pub mod Fair
pub mod Reached
pub mod Skipped
pub mod Asked
-- steps taken apart, and steps where slots are swept
pub mod Calls
pub mod Swept
