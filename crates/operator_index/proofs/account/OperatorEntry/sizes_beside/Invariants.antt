use Rattle.std.proofs.Common.{◌≡◌, ◌<◌, ◌^◌, take}
use Rattle.operator_index.specs.Roll.{state_cells_beside, state_spans_beside}
use Rattle.operator_index.proofs.account.OperatorEntry.sizes_beside.Given as goal

-- those of the plans so far, if 32 bits can say those of all
abbrev pub invariant-loop-plan : goal.invariant-loop-plan
invariant-loop-plan l =
    record {
      spans : state_spans_beside l.id l.self.plans.items < 2 ^ 32
          → l.sizes.spans ≡ state_spans_beside l.id (take l.plan-index l.self.plans.items);
      cells : state_cells_beside l.id l.self.plans.items < 2 ^ 32
          → l.sizes.cells ≡ state_cells_beside l.id (take l.plan-index l.self.plans.items);
    }
