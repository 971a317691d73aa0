pub mod Limits
pub mod Conflict
pub mod Outcome
