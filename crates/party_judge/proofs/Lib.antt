pub mod WholeBook
pub mod Promises
pub mod Binding
pub mod Harmless
