pub mod UnopenedLemmas
mod KeepLemmas
mod ReorderLemmas
mod ScratchLemmas
