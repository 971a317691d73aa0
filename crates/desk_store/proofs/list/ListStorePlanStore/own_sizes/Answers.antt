use Rattle.std.proofs.Common.{arith}
use Rattle.desk_store.specs.World.{world_in_lists}
use Rattle.desk_store.proofs.list.ListStorePlanStore.own_sizes.Goals as goal

pub sizes_of-requires-clause-spans : goal.sizes_of-requires-clause-spans
sizes_of-requires-clause-spans c =
    let kept = c.self.inside in
    let few =
    c.spans_are_few.ensures (world_in_lists kept.operators.entries kept.plans.entries) c.args.operator.now
    c.args.id.now c.self.invariant.0 in
    omega (arith, few)

pub sizes_of-requires-clause-cells : goal.sizes_of-requires-clause-cells
sizes_of-requires-clause-cells c =
    let kept = c.self.inside in
    let few =
    c.cells_are_few.ensures (world_in_lists kept.operators.entries kept.plans.entries) c.args.operator.now
    c.args.id.now c.self.invariant.0 in
    omega (arith, few)
