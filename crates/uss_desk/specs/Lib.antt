pub mod OpenedFor
pub mod Finishing
pub mod FilesLeft
