pub mod Tables
pub mod RowsRead
pub mod SpanBounds
