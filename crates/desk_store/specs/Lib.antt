pub mod World
pub mod Changes
