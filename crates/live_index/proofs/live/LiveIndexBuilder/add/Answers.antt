use Rattle.std.proofs.lemmas.Result.{on_ok_weaker}
use Rattle.desk_store.specs.Changes.{filed_by}
use Rattle.live_index.proofs.VolumeLemmas.{plan_added}
use Rattle.live_index.proofs.live.LiveIndexBuilder.add.Goals as goal

pub returns : goal.returns
returns c =
    on_ok_weaker c.push_plan.result (λ added ps.
    plan_added (filed_by c.args.operator.now c.args.row.now) ps c.args.self.now.volumes.items
    c.push_plan.new.volumes.items added) c.push_plan.ensures
