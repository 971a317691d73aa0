use Rattle.std.proofs.Common.{subst}
use Rattle.desk_store.specs.World.{LeavesOldOr}
use Rattle.desk_store.specs.Changes.{changed_by}
use Rattle.table_load.specs.Files.{MayLeave}
use Rattle.uss_desk.proofs.watching.PathCheckedPlanStore.apply.Goals as goal

pub returns-clause-crash : goal.returns-clause-crash
returns-clause-crash g c = λ honest.
    subst (λ s. LeavesOldOr (changed_by c.args.change.now s.world) (MayLeave g.S.Store s.held)
    (MayLeave g.S.Store c.apply_at.new.store.held))
    c.self.view_is (c.apply_at.ensures.crash honest)
