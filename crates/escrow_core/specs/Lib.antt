pub mod Locks
pub mod Terms
pub mod Table
pub mod Value
pub mod Inside
pub mod ContractRows
