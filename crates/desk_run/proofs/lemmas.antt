-- Laws of the definitions, which crates above may cite.
pub mod Crash
pub mod Repeat
pub mod Side
pub mod Step
pub mod TwoRun
