pub mod Operators
pub mod FoundLogs
