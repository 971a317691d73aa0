-- Laws of the definitions, which crates above may cite.
pub mod Naming
pub mod Reporting
