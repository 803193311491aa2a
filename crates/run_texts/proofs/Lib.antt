pub mod Fields
pub mod TextSections
pub mod Sequence
pub mod Ticks
pub mod Books
pub mod ItemLines
pub mod LedgerLines
