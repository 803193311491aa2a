pub mod Crafted
pub mod Resolved
pub mod Fitting
pub mod Step
pub mod Names
pub mod MoveKeys
pub mod Roles
