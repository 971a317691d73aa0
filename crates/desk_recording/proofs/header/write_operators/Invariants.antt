use Rattle.std.proofs.Common.{◌≡◌, ◌++◌, map, drop}
use Rattle.desk_record.specs.Record.{entries}
use Rattle.desk_program.specs.Enrolling.{AreNamed, operator_entry}
use Rattle.desk_recording.proofs.header.write_operators.Given as goal

-- the text, with the entries of the operators that are left, has those of all; and if their names are those of
-- operators, all are
abbrev pub invariant-loop-enrolment : goal.invariant-loop-enrolment
invariant-loop-enrolment l =
    (l.text.items ++ entries (map operator_entry (drop l.enrolment-index l.fn.operators))
    ≡ l.fn.text.items ++ entries (map operator_entry l.fn.operators))
    × (AreNamed (drop l.enrolment-index l.fn.operators) → AreNamed l.fn.operators)
