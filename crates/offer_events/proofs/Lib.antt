pub mod Fits
pub mod Scanned
pub mod PlainText
pub mod Crafters
