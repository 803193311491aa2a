pub mod Whole
pub mod Back
pub mod Steps
pub mod LastLine
pub mod Leads
pub mod Ends
pub mod Reported
pub mod AuditEnds
