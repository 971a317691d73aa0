-- Laws of the definitions, which crates above may cite.
pub mod Curve
pub mod Place
pub mod Quadrant
pub mod Square
