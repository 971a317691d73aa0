use Rattle.desk_host.proofs.FaultLemmas.{continued_or}
use Rattle.desk_host.proofs.folders.read_last.Goals as goal

-- what was read speaks against the journal, or doesn't
pub returns-clause-cause : goal.returns-clause-cause
returns-clause-cause c =
    continued_or _ c.args.last.now.number c.in_ok-tail.tail c.in_ok-tail.ended c.check_tail.result
    c.check_tail.ensures
