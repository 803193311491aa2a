pub mod Answered
pub mod Feeding
pub mod LastSignatures
pub mod Paths
pub mod Signed
pub mod Validity
pub mod Apart
