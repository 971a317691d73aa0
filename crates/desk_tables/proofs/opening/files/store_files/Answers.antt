use Rattle.std.proofs.Common.{arith}
use Rattle.sqlite.specs.Files.{file_state}
use Rattle.sqlite.specs.State.{HasCleanDisk}
use Rattle.desk_tables.proofs.LookLemmas.{made_files}
use Rattle.desk_tables.proofs.opening.files.store_files.Goals as goal

pub returns-in-Ok-clause-made : goal.returns-in-Ok-clause-made
returns-in-Ok-clause-made g c = λ image finds.
    made_files image c.args.connection c.in-Ok.store finds c.in-Ok.ensures.blank c.in-Ok.ensures.adopted

pub returns-in-Err-clause-fault : goal.returns-in-Err-clause-fault
returns-in-Err-clause-fault g c =
    let was : HasCleanDisk (file_state c.in-Err.refused.connection)
    → HasCleanDisk (file_state c.args.connection) =
    λ clean. omega (arith, c.in-Err.ensures.unmade.doubt, clean) in λ image finds. record {
      found = c.args.connection;
      opened = λ clean. finds.first (was clean);
      fresh = c.requires.fresh;
      unmade = c.in-Err.ensures.unmade;
    }
