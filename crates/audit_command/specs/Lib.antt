pub mod Header
pub mod Stages
pub mod TranscriptReading
pub mod Laws
pub mod Output
pub mod Promised
pub mod Reading
pub mod Says
