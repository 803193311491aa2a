pub mod Words
pub mod Reasons
pub mod Next
pub mod Output
pub mod Says
pub mod Process
pub mod Exit
