pub mod VolumeLimits
pub mod Volume
pub mod Footprint
pub mod Slab
pub mod Sweep
