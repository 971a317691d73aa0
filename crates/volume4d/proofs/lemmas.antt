-- Laws of the definitions, which crates above may cite.
pub mod Level
pub mod Point
pub mod Slab
pub mod Bounds
pub mod Volume
