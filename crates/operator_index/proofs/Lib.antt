pub mod lemmas
pub mod RollLemmas
pub mod ListedLemmas
