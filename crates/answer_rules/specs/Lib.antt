pub mod Heights
pub mod Finished
pub mod Stopped
pub mod Laws
