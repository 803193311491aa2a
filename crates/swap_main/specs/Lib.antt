pub mod Top
pub mod Answer
pub mod Process
pub mod Exit
pub mod Laws
pub mod KnownStrategies
