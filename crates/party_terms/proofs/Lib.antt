pub mod TouchingArcs
pub mod Times
