pub mod Words
pub mod SoFar
pub mod Ledger
pub mod Headings
pub mod Chains
pub mod Telling
pub mod Inside
