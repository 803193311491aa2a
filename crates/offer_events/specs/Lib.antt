pub mod Reading
pub mod Event
pub mod Plain
