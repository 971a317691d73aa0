pub mod Naming
pub mod Paths
pub mod Access
