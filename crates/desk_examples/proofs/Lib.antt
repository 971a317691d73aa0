mod BlockLemmas
mod DeskLemmas
mod LineLemmas
