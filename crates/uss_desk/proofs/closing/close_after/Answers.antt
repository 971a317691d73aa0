use Rattle.uss_desk.proofs.RunLemmas.{is_closed}
use Rattle.uss_desk.proofs.closing.close_after.Goals as goal

pub returns : goal.returns
returns g c = rw c.in-Some.is
    (is_closed c.in-Some.desk c.into_store.result c.close-closed.result c.args.status _ c.into_store.ensures
    c.exit_closed-exit.ensures c.close-closed.ensures.copied c.close-closed.ensures.unclosed)
