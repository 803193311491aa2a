pub mod Publish
pub mod DealTerms
pub mod Unlocks
pub mod Settling
pub mod DueUnlock
