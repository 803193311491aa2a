pub mod ManyText
pub mod Shown
