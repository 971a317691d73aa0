pub mod DigitLemmas
pub mod LawLemmas
pub mod LineLemmas
pub mod ReadLemmas
