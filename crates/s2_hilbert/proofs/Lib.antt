pub mod lemmas
pub mod FourTables
pub mod Steps
pub mod Digits
pub mod FourSteps
pub mod SquareFacts
