pub mod Headers
pub mod ClearedJobs
pub mod Made
pub mod Texts
