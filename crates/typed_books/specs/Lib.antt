pub mod Typed
pub mod Books
