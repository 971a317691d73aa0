mod ServedLemmas
mod EnrolLemmas
mod KeepingLemmas
mod BegunLemmas
mod EndLemmas
mod CauseLemmas
mod PortGivenLemmas
mod LineLemmas
