pub mod lemmas
pub mod Spellings
pub mod HexValues
pub mod LowestBits
pub mod Readings
