pub mod FilesReported
pub mod ScratchCopies
