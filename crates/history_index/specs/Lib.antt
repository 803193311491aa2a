pub mod Value
pub mod Numbers
pub mod Made
pub mod Kept
pub mod Inside
pub mod Indexes
