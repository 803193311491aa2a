pub mod Wallet
pub mod Machine
pub mod Rest
pub mod Within
pub mod Unlocking
pub mod Recording
pub mod Law
