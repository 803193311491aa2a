pub mod Notes
pub mod Kept
pub mod NoteStates
pub mod Asked
pub mod Faults
pub mod Inside
