pub mod lemmas
mod WritingLemmas
