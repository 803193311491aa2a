pub mod Fields
pub mod Below
pub mod Heading
pub mod Inside
pub mod Places
pub mod Event
pub mod Whole
pub mod Setup
