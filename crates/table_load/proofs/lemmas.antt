-- Lemmas that crates above may cite.
pub mod Assembly
pub mod Content
pub mod Cut
pub mod Frame
pub mod KeyOrder
pub mod Leftover
pub mod Moving
pub mod NewRow
pub mod Opening
pub mod Small
pub mod Span
pub mod Store
pub mod Writing
