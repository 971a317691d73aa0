use Rattle.std.proofs.Common.{subst}
use Rattle.sqlite_trees.specs.View.{IsClean}
use Rattle.sqlite_store.specs.FileStore.{view}
use Rattle.sqlite.specs.Files.{FailsToClose, IsClosed}
use Rattle.desk_tables.proofs.closing.SqliteStore+FileStore+D.close.Goals as goal

pub returns-in-Err-clause-unclosed : goal.returns-in-Err-clause-unclosed
returns-in-Err-clause-unclosed g c =
    let left = c.in-Err.left in
    let error = c.in-Err.error in
    let both = subst (λ h. IsClosed h left × (IsClean (view left) → FailsToClose h left error))
    c.release.ensures.value c.in-Err.ensures.err in record { closed = both.0; cause = both.1 }
