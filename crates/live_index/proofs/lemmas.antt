-- Laws of the definitions, which crates above may cite.
pub mod Lists
pub mod Live
