pub mod Opened
pub mod Least
pub mod KeyRows
pub mod Rows
pub mod Views
