pub mod Sent
pub mod Judged
pub mod Standing
pub mod CallConduct
pub mod Overdue
