pub mod Value
pub mod Graph
pub mod Arcs
pub mod Inside
pub mod Deal
