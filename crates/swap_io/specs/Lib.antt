pub mod Tape
pub mod Causes
pub mod Counted
pub mod Supply
pub mod Faults
pub mod Lines
pub mod Handed
