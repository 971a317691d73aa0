use Rattle.std.proofs.Common.{arith}
use Rattle.sqlite.specs.Files.{file_state, over_files}
use Rattle.sqlite.specs.State.{HasCleanDisk}
use Rattle.desk_tables.proofs.LiftLemmas.{disk_blamed}
use Rattle.desk_tables.proofs.opening.files.read_connected.Goals as goal

pub returns-in-Err-clause-fault : goal.returns-in-Err-clause-fault
returns-in-Err-clause-fault g c =
    let was : HasCleanDisk (file_state c.read_content.new.connection)
    → HasCleanDisk (file_state c.args.connection) =
    λ clean. omega (arith, c.in-Err.ensures.reads.doubt, clean) in λ image finds. record {
      found = c.args.connection;
      opened = λ clean. finds.first (was clean);
      fresh = c.requires.fresh;
      none = c.in-Err.ensures.refused;
      newer = c.in-Err.ensures.no_old_schema;
      cause = disk_blamed over_files c.args.connection c.read_content.new.connection _
          c.requires.fresh.unlimited c.in-Err.ensures.cause;
      reads = c.in-Err.ensures.reads;
    }

pub returns-in-Ok-clause-looks : goal.returns-in-Ok-clause-looks
returns-in-Ok-clause-looks g c = λ image finds.
    let was : HasCleanDisk (file_state c.read_content.new.connection)
    → HasCleanDisk (file_state c.args.connection) =
    λ clean. omega (arith, c.in-Ok.ensures.reads.doubt, clean) in record {
      found = c.args.connection;
      opened = λ clean. finds.first (was clean);
      shows = c.in-Ok.ensures.value;
      reads = c.in-Ok.ensures.reads;
    }
