pub mod Messages
pub mod WireLimits
pub mod Heads
pub mod Routes
pub mod Requests
pub mod Times
