mod FaultLemmas
mod JournalLemmas
mod LossLemmas
mod OperatorLemmas
mod ReportedLemmas
mod ScratchLemmas
