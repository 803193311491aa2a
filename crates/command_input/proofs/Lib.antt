pub mod Codes
pub mod Named
pub mod Filled
pub mod Ahead
pub mod Streams
pub mod Statuses
