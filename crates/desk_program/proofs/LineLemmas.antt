-- A line that is reported.
use Rattle.std.proofs.Common.{ℕ, List, Option, Result, Ok, Err, OnOk, IfErr, inl, inr}
use Rattle.std.specs.Io.KnownBytes.{Appends}
use Rattle.io_ends.specs.Writing.{BreaksOff}
use Rattle.io_ends.specs.declared.writing.WriteError.{WriteError}
use Rattle.desk_program.specs.Enrolling.{IsWrittenAsFarAsPossible}

-- it is written, or broken off
pub noted : {U E : Type 0} (line : List ℕ) (old now : Option (List ℕ)) (done : Result U (WriteError E))
    → OnOk done (Appends old now line) → IfErr done (λ cut. BreaksOff line old now cut.fault)
    → IsWrittenAsFarAsPossible line old now
noted line old now (Ok u) whole off = inr (inl whole)
noted line old now (Err cut) whole off = inr (inr (cut.fault, off))
