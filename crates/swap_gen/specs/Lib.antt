pub mod Made
pub mod Owned
pub mod Word
pub mod Drawn
pub mod Events
pub mod Inside
pub mod Line
