-- Lemmas that crates above may cite.
pub mod Collector
pub mod Exact
pub mod Id
pub mod Order
pub mod Plan
pub mod Result
pub mod Share
pub mod SpanBound
pub mod Unread
