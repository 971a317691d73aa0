-- How reading, writing and serving ended, and why.
use Rattle.std.specs.Prelude.{◌≡◌, ◌≢◌, ◌<◌, ℕ, Result, Ok, Err, ◌+◌, List, length, take, Option, ◌++◌, codes, decimal, ℤ, pos, ◌≤ℤ◌}
use Rattle.std.specs.{IoError.error_kind, Io.KnownBytes.Appends}
use Rattle.std.specs.declared.io.{Error.Error, ErrorKind.TheVariants.Interrupted}
use Rattle.volume4d.specs.VolumeLimits.{max_second}
use Rattle.io_ends.specs.declared.{writes.LastWrite.LastWrite, writes.LastWrite.TheVariants.Passed, writes.LastWrite.TheVariants.Nothing, writes.LastWrite.TheVariants.Failed, writes.Writes.Writes, writing.WriteStop.WriteStop, writing.PartialWrite.PartialWrite}
use Rattle.io_ends.specs.declared.{serving.ServeFault.ServeFault, serving.ServeFault.TheVariants.Read, serving.ServeFault.TheVariants.Write, serving.ServeFault.TheVariants.CutShort, serving.ServeFault.TheVariants.OutOfMemory}
use Rattle.io_ends.specs.declared.writing.WriteStop.TheVariants as end

-- the kind of result that one call of `write` had, by what it returned
abbrev pub IsLast : Result ℕ Error → LastWrite → Type 0
IsLast (Ok count) Passed = 0 < count
IsLast (Ok count) Nothing = count ≡ 0
IsLast (Ok count) Failed = ⊥
IsLast (Err error) Passed = error_kind error ≡ Interrupted
IsLast (Err error) Nothing = ⊥
IsLast (Err error) Failed = error_kind error ≢ Interrupted

-- how many calls of `write` are allowed beyond one for each byte: this desk's own limit
abbrev pub spare_writes : ℕ
spare_writes = 1_000

-- why not all of `count` bytes are written, by the calls that were made: the last one failed, or it took no
-- byte; or it passed, and there were as many calls as are allowed
abbrev pub EndsBy : WriteStop → Writes → ℕ → Type 0
EndsBy end.Whole writes count = ⊥
EndsBy end.Failed writes count = writes.last ≡ Failed
EndsBy end.Nothing writes count = writes.last ≡ Nothing
EndsBy end.Limit writes count = (writes.last ≡ Passed) × (writes.count ≡ count + spare_writes)

-- `bytes` were not all written: an output that had `out` has `now`, which is the first `fault.sent` of them
-- more; `fault` says why
pub record BreaksOff (bytes : List ℕ) (out now : Option (List ℕ)) (fault : PartialWrite) : Type 0 where
  pub cause : EndsBy fault.end fault.writes (length bytes)
  pub short : fault.sent < length bytes
  pub written : Appends out now (take fault.sent bytes)

-- the fault as a sentence
abbrev pub serve_fault_text : ServeFault → List ℕ
serve_fault_text Read = codes "a read failed"
serve_fault_text (Write fault) = codes "a write failed after " ++ (decimal fault.sent ++ codes " bytes")
serve_fault_text CutShort = codes "the input ended inside a request"
serve_fault_text OutOfMemory = codes "out of memory"

-- a second in this range
abbrev pub IsMoment : ℤ → Type 0
IsMoment z = (pos 0 ≤ℤ z) × (z ≤ℤ max_second)
