pub mod Proposed
pub mod Checks
pub mod Wallets
pub mod Job
pub mod Laws
pub mod Certificates
