pub mod Texts
pub mod Words
pub mod Report
pub mod Items
