pub mod Grid
pub mod Curve
