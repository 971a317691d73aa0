pub mod RecordWrites
pub mod Inputs
pub mod Recording
pub mod Recovering
pub mod Tail
