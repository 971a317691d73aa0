use Rattle.uss_desk.proofs.WatchLemmas.{reads_within}
use Rattle.uss_desk.proofs.watching.PathCheckedPlanStore.plan.Goals as goal

pub returns-clause-reads : goal.returns-clause-reads
returns-clause-reads g c =
    reads_within g.S.Store c.self.inside.store c.plan.new.self c.args.self.now c.self.inside.refused
    c.self.view_is c.plan.ensures.reads
