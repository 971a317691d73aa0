-- Laws of the definitions, which crates above may cite.
pub mod Change
pub mod Content
pub mod Fault
pub mod Held
pub mod Order
pub mod Parse
pub mod Rival
pub mod World
