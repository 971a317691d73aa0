pub mod Exits
pub mod Grammar
pub mod Lines
pub mod Malformed
