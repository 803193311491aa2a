pub mod Values
pub mod LowTexts
pub mod Floats
pub mod Headers
pub mod Actors
