pub mod Digest
pub mod Hashkey
pub mod LastSignatures
pub mod Law
pub mod Signed
