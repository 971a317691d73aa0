use Rattle.desk_admin.proofs.KeepLemmas.{copy_made, fails_closing}
use Rattle.desk_admin.proofs.keeping.close_copy.Goals as goal

pub returns-in-Err-clause-fault : goal.returns-in-Err-clause-fault
returns-in-Err-clause-fault g c = λ image other stored.
    fails_closing {g = g.D.Disk} {k = g.N.Disk} image other c.args.copied.1.0 c.in-Err.unclosed stored.made
    c.in-Err.ensures.unclosed

pub returns-in-Ok-clause-made : goal.returns-in-Ok-clause-made
returns-in-Ok-clause-made g c = λ image other stored.
    copy_made g.N.Disk image other c.args.copied.0 c.in-Ok.files c.args.copied.1.1 c.args.copied.1.0 stored
    c.in-Ok.ensures.copied
