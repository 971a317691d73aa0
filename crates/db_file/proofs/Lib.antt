pub mod WalCommitLemmas
pub mod CountLemmas
pub mod DamageLemmas
pub mod JudgeLemmas
pub mod ReadLemmas
pub mod WalkLemmas
mod SumLemmas
mod OrderLemmas
mod CommitLemmas
