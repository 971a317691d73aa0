pub mod Queries
pub mod Schema
pub mod Rows
pub mod Effects
pub mod Changing
pub mod Statements
