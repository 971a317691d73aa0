mod LogLemmas
mod RunLemmas
mod WatchLemmas
mod FinishLemmas
