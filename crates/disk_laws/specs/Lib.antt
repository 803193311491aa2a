pub mod DiskCalls
pub mod DiskRun
pub mod Laws
pub mod AnyRun
