pub mod Store
pub mod Copying
