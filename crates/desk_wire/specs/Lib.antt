pub mod Bytes
pub mod Streams
pub mod Playing
pub mod Headline
pub mod Given
