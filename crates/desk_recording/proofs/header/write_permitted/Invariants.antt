use Rattle.std.proofs.Common.{◌≡◌, ◌++◌}
use Rattle.desk_record.specs.Record.{entries}
use Rattle.desk_recording.specs.RecordWrites.{permitted_below}
use Rattle.desk_recording.proofs.header.write_permitted.Given as goal

-- the text has the entries of those below
abbrev pub invariant-loop-priority : goal.invariant-loop-priority
invariant-loop-priority l =
    l.text.items ≡ l.fn.text.items ++ entries (permitted_below l.priority l.fn.permitted)
