-- How reading ended, and why.
use Rattle.std.specs.Prelude.{◌≡◌, ◌≢◌, ◌≤◌, ◌⊎◌, ⊤, ℕ, Result, Ok, Err}
use Rattle.std.specs.{IoError.error_kind}
use Rattle.std.specs.declared.io.{Error.Error, ErrorKind.TheVariants.Interrupted}
use Rattle.io_ends.specs.declared.{chunks.ChunkError.ChunkError, chunks.ChunkError.TheVariants.Read, chunks.ChunkError.TheVariants.OutOfMemory, reads.LastRead.LastRead, reads.LastRead.TheVariants.Passed, reads.LastRead.TheVariants.Failed, reads.Reads.Reads}

-- the kind of result that one call of `read` had, by what it returned
abbrev pub IsLastRead : Result ℕ Error → LastRead → Type 0
IsLastRead (Ok count) Passed = ⊤
IsLastRead (Ok count) Failed = ⊥
IsLastRead (Err error) Passed = error_kind error ≡ Interrupted
IsLastRead (Err error) Failed = error_kind error ≢ Interrupted

-- no calls of `read` yet, so that a first one may follow
abbrev pub no_reads : Reads
no_reads = record { count = 0; last = Passed }

-- reading was given up: the last call failed; or it passed, and there were as many calls as `limit` allows
abbrev pub HaveGivenUp : ℕ → Reads → Type 0
HaveGivenUp limit reads = (reads.last ≡ Failed) ⊎ ((reads.last ≡ Passed) × (limit ≤ reads.count))

-- why bytes were not read: reading was given up, or memory ran out
abbrev pub IsUnread : {R : Type 0} → ℕ → ChunkError R → Type 0
IsUnread limit (Read error) = HaveGivenUp limit error.reads
IsUnread limit OutOfMemory = ⊤
