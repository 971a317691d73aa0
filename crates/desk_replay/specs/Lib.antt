pub mod Running
pub mod Replaying
