use Rattle.std.proofs.Common.{arith}
use Rattle.sqlite.specs.State.{HasCleanDisk}
use Rattle.sqlite.specs.Files.{file_state}
use Rattle.desk_tables.proofs.opening.files.adopt_files.Goals as goal

pub returns-in-Ok-clause-begins : goal.returns-in-Ok-clause-begins
returns-in-Ok-clause-begins g c =
    let was : HasCleanDisk (file_state c.in-Ok.store.held) → HasCleanDisk (file_state c.args.connection) =
    λ clean. omega (arith, c.in-Ok.ensures.adopted.doubt, clean) in λ image finds. record {
      found = c.args.connection;
      doubt = c.in-Ok.ensures.adopted.doubt;
      opened = λ clean. finds.first (was clean);
      guarded = λ clean. c.in-Ok.ensures.adopted.shield (finds.guarded clean);
      summed = finds.summed;
      live = c.in-Ok.ensures.adopted.live;
      begins = c.in-Ok.ensures.begins;
    }

pub returns-in-Err-clause-fault : goal.returns-in-Err-clause-fault
returns-in-Err-clause-fault g c =
    let was : HasCleanDisk (file_state c.in-Err.refused.connection)
    → HasCleanDisk (file_state c.args.connection) =
    λ clean. omega (arith, c.in-Err.ensures.refused.doubt, clean) in λ image finds. record {
      found = c.args.connection;
      opened = λ clean. finds.first (was clean);
      fresh = c.requires.fresh;
      none = c.in-Err.ensures.refused.none;
      old = c.in-Err.ensures.refused.older;
      cause = c.in-Err.ensures.refused.cause;
      kept = c.in-Err.ensures.refused.kept;
    }

pub returns-in-Ok-clause-guarded : goal.returns-in-Ok-clause-guarded
returns-in-Ok-clause-guarded g c = λ guarded clean.
    c.in-Ok.ensures.adopted.shield (guarded (omega (arith, c.in-Ok.ensures.adopted.doubt, clean)))

pub returns-in-Ok-clause-cut : goal.returns-in-Ok-clause-cut
returns-in-Ok-clause-cut g c =
    let was : HasCleanDisk (file_state c.in-Ok.store.held) → HasCleanDisk (file_state c.args.connection) =
    λ clean. omega (arith, c.in-Ok.ensures.adopted.doubt, clean) in λ image finds. record {
      found = c.args.connection;
      opened = λ clean. finds.first (was clean);
      left = λ clean. c.in-Ok.ensures.cut clean (finds.first (was clean)).0.0.is_open;
    }

pub returns-in-Err-clause-cut : goal.returns-in-Err-clause-cut
returns-in-Err-clause-cut g c =
    let was : HasCleanDisk (file_state c.in-Err.refused.connection)
    → HasCleanDisk (file_state c.args.connection) =
    λ clean. omega (arith, c.in-Err.ensures.refused.doubt, clean) in λ image finds. record {
      found = c.args.connection;
      opened = λ clean. finds.first (was clean);
      left = λ clean. c.in-Err.ensures.cut clean (finds.first (was clean)).0.0.is_open;
    }
