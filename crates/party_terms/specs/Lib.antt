pub mod Context
pub mod Times
pub mod Laws
pub mod Text
pub mod Terms
pub mod Inside
