use Rattle.std.proofs.Common.{◌≡◌, ◌≤◌, ◌-◌}
use Rattle.desk_store.specs.World.{LeavesNoMore, plans_of, held, held_at}
use Rattle.desk_store.specs.Changes.{IsHonest}
use Rattle.desk_run.proofs.PieceLemmas.{NoneBlockedBefore}
use Rattle.desk_run.proofs.pending.pieces.first_among.Given as goal

-- no point before the piece is blocked, and the store has changed nothing
abbrev pub invariant-loop-piece : goal.invariant-loop-piece
invariant-loop-piece g l =
    let w = g.S.PlanStore.content l.fn.store in
    record {
      before :
          IsHonest (g.S.PlanStore.doubt l.store)
          → NoneBlockedBefore l.permitted (held_at (plans_of l.operator w) (held w l.operator) l.id)
          l.priority l.slabs l.piece.first;
      same : g.S.PlanStore.content l.store ≡ g.S.PlanStore.content l.fn.store;
      crash :
          IsHonest (g.S.PlanStore.doubt l.store) → LeavesNoMore (g.S.PlanStore.may_leave l.fn.store)
          (g.S.PlanStore.may_leave l.store);
      doubt : g.S.PlanStore.doubt l.fn.store ≤ g.S.PlanStore.doubt l.store;
      counted : g.S.PlanStore.faults l.fn.store ≤ g.S.PlanStore.faults l.store;
      shield : g.S.PlanStore.is_shielded l.fn.store → g.S.PlanStore.is_shielded l.store;
    }

abbrev pub decreases-loop-piece : goal.decreases-loop-piece
decreases-loop-piece g l = l.whole.last - l.piece.last
