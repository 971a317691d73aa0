pub mod Wal
pub mod Orders
