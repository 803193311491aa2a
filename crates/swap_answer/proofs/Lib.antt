pub mod EachWord
pub mod Statuses
