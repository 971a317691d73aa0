pub mod WrittenLemmas
mod ReportLemmas
pub mod GivenLemmas
pub mod CommandLemmas
pub mod EqualLemmas
pub mod LackLemmas
mod RegisterLemmas
