use Rattle.std.proofs.Common.{rules}
use Rattle.live_index.proofs.LeftLemmas.{left_filtered}
use Rattle.live_index.proofs.chunk.Chunk.remove_plan.Goals as goal

pub returns-clause-removed : goal.returns-clause-removed
returns-clause-removed c =
    left_filtered c.args.operator.now c.args.id.now c.args.self.now.volumes.items
    c.remove_plan_volumes.new.volumes.items _
    c.remove_plan_volumes.ensures.items (search rules)
