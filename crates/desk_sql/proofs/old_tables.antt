-- The tables of version 1 of the schema.
pub mod ReadLemmas
pub mod RowLemmas
