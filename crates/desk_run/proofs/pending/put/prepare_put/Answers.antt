use Rattle.std.proofs.Common.{w64}
use Rattle.std.proofs.lemmas.Int.{to_z-of_z}
use Rattle.desk_store.proofs.lemmas.Fault.{was_honest}
use Rattle.desk_run.proofs.CallLemmas.{put_ready}
use Rattle.desk_run.proofs.pending.put.prepare_put.Goals as goal

pub returns-clause-value : goal.returns-clause-value
returns-clause-value g c = λ honest.
    let before = was_honest c.verdict_on.ensures.reads.doubt honest in
    put_ready c.args.terms.now (g.S.PlanStore.content c.args.store.now) c.args.operator.now
    c.args.put.now _ c.args.moment
    c.args.ceiling c.in_ok-verdict.verdict c.reply_of.result c.in_ok-change.change
    (c.requires.listed before) (c.requires.low before) (c.in_ok-verdict.ensures.verdict honest)
    (to_z-of_z w64 c.args.moment c.ranges.moment) c.in_ok-change.ensures c.reply_of.ensures
