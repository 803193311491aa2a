pub mod Replies
pub mod Audit
pub mod Found
pub mod Accepted
