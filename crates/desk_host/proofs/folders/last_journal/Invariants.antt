use Rattle.std.specs.Prelude.{IfSome}
use Rattle.desk_host.specs.Operators.{IsJournalIn}
use Rattle.desk_host.proofs.folders.last_journal.Given as goal

-- the greatest number so far is that of a journal of the folder
abbrev pub invariant-loop-entry : goal.invariant-loop-entry
invariant-loop-entry l = IfSome l.greatest (IsJournalIn l.folder)
