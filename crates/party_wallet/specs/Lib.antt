pub mod Value
pub mod Keys
pub mod Fits
pub mod Wallets
pub mod Inside
