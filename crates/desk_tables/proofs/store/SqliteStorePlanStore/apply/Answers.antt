use Rattle.std.proofs.Common.{arith, sym, subst}
use Rattle.desk_store.specs.Changes.{changed_by}
use Rattle.desk_store.specs.World.{IsContent, LeavesOldOr}
use Rattle.row_codec.specs.SpanBounds.{Knows}
use Rattle.table_load.specs.Files.{MayLeave}
use Rattle.desk_tables.proofs.LeavingLemmas.{leaves_or_changed}
use Rattle.desk_tables.proofs.store.SqliteStorePlanStore.apply.Goals as goal

pub invariant_of-self : goal.invariant_of-self
invariant_of-self g c = (
  c.prepare.ensures.kept c.self.inside.tables.world c.self.invariant.0,
  c.self.invariant.1,
)

pub invariant_of-self-in-Ok : goal.invariant_of-self-in-Ok
invariant_of-self-in-Ok g c = (
  subst (Knows c.update_after.new.self) (sym c.in-Ok.ensures.made.ok)
      (c.update_after.ensures c.self.inside.tables.world
      (c.prepare.ensures.kept c.self.inside.tables.world c.self.invariant.0)),
  λ clean. (c.settled.ensures.stands.standing clean (c.in-Ok.ensures.made.is_open clean)).content,
)

pub returns-in-Ok-clause-crash : goal.returns-in-Ok-clause-crash
returns-in-Ok-clause-crash g c = λ honest.
    let old = c.self.inside.tables in
    let new = c.make.new.self in
    let change = c.args.change.now in
    subst (λ s. LeavesOldOr (changed_by change s.world) (MayLeave g.S.Store s.held)
    (MayLeave g.S.Store new.held)) c.self.view_is
    (leaves_or_changed c.one_state.ensures g.S.Store old.held new.held (changed_by change old.world)
    c.make.ensures.made.crash honest)

pub returns-in-Ok-clause-kept : goal.returns-in-Ok-clause-kept
returns-in-Ok-clause-kept g c = λ honest.
    c.settled.ensures.left honest (c.in-Ok.ensures.made.is_open honest)

pub invariant_of-self-in-Err : goal.invariant_of-self-in-Err
invariant_of-self-in-Err g c = (
  subst (Knows c.prepare.new.self) (sym c.in-Err.ensures.made.err)
      (c.prepare.ensures.kept c.self.inside.tables.world c.self.invariant.0),
  λ clean. subst IsContent (sym c.in-Err.ensures.made.err)
      (c.self.invariant.1 (omega (arith, c.make.ensures.made.doubt, clean))),
)

pub returns-clause-crash : goal.returns-clause-crash
returns-clause-crash g c = λ honest.
    let old = c.self.inside.tables in
    let new = c.make.new.self in
    let change = c.args.change.now in
    subst (λ s. LeavesOldOr (changed_by change s.world) (MayLeave g.S.Store s.held)
    (MayLeave g.S.Store new.held)) c.self.view_is
    (leaves_or_changed c.one_state.ensures g.S.Store old.held new.held (changed_by change old.world)
    c.make.ensures.made.crash honest)
