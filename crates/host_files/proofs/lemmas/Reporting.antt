-- What is reported, one line after the other.
use Rattle.std.proofs.Common.{ℕ, List, [], ◌++◌, take, Option, None, Some, inl, inr, subst, sym}
use Rattle.std.proofs.KnownBytes.{Appends-nil, Appends-trans}
use Rattle.std.specs.Io.KnownBytes.{Appends}
use Rattle.io_ends.specs.declared.writing.WriteError.{WriteError}
use Rattle.desk_wire.specs.Streams.{Course, course}
use Rattle.host_files.specs.Naming.{IsWrittenIfRoom, IsWrittenUpTo, Reports}

-- nothing is reported
pub reports_nothing : (now : Option (List ℕ)) → Reports (course now now)
reports_nothing now = record { text = []; reported = Appends-nil now }

-- one text after the other
pub reports_both : {old between now : Option (List ℕ)} → Reports (course old between)
    → Reports (course between now) → Reports (course old now)
reports_both {old} {between} {now} first next = record {
  text = first.text ++ next.text;
  reported = Appends-trans old between now first.text next.text first.reported next.reported;
}

-- a line is written, or broken off
pub noted : {E : Type 0} (line : List ℕ) (cut : Option (WriteError E)) (writes : Course (Option (List ℕ)))
    → IsWrittenUpTo line cut writes → IsWrittenIfRoom line writes
noted line None writes whole = inr (inl whole)
noted line (Some cut) writes off = inr (inr (cut.fault, off))

-- a line that is written, whole or in part, is reported
pub reports_noted : (line : List ℕ) (writes : Course (Option (List ℕ))) → IsWrittenIfRoom line writes
    → Reports writes
reports_noted line writes (inl same) =
    subst (λ now. Reports (course writes.before now)) (sym same) (reports_nothing writes.before)
reports_noted line writes (inr (inl whole)) = record { text = line; reported = whole }
reports_noted line writes (inr (inr (fault, off))) = record { text = take fault.sent line; reported = off.written }
