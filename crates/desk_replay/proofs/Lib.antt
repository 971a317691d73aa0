pub mod LawLemmas
pub mod RunLemmas
pub mod ReportingLemmas
