pub mod Enrolling
pub mod Serving
pub mod Keeping
pub mod PortGiven
