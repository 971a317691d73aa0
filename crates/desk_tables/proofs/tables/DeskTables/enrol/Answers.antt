use Rattle.std.proofs.Common.{subst, sym}
use Rattle.desk_store.specs.declared.change.Change.TheVariants.{Enrol}
use Rattle.desk_sql.specs.Changing.{IsShort}
use Rattle.desk_sql.specs.Rows.{PutsOperator}
use Rattle.desk_tables.specs.Store.{IsNext}
use Rattle.desk_tables.proofs.AfterLemmas.{committed_as, followed, followed_blamed, made_enrolled}
use Rattle.table_load.proofs.lemmas.NewRow.{name_short}
use Rattle.desk_tables.proofs.tables.DeskTables.enrol.Goals as goal

pub invariant_of-self : goal.invariant_of-self
invariant_of-self g c =
    let old = c.self.inside.connection in
    let new = c.put_operator-committed.new.connection in
    let w = c.self.inside.kept.world in
    let change = Enrol c.args.operator.now c.args.ceiling in
    let next = subst (λ t. IsNext g.S.Store t c.args.next.world change) (sym c.self.view_is) c.requires in
    (followed g.S.Store old new w c.advance_if_committed.new.kept.world c.args.next.world tt change
    c.put_operator-committed.result c.advance_if_committed.result
    (made_enrolled g.S.Store old new w c.self.invariant _ c.args.operator.now c.args.ceiling
    (committed_as (λ name. PutsOperator name c.args.ceiling) c.as_str.ensures.value
    c.put_operator-committed.ensures.committed) c.as_str.ensures.valid next.fits)
    c.advance_if_committed.ensures next.world).0

pub returns-clause-made : goal.returns-clause-made
returns-clause-made g c =
    let old = c.self.inside.connection in
    let new = c.put_operator-committed.new.connection in
    let w = c.self.inside.kept.world in
    let change = Enrol c.args.operator.now c.args.ceiling in
    let next = subst (λ t. IsNext g.S.Store t c.args.next.world change) (sym c.self.view_is) c.requires in
    rw (← c.self.view_is) (followed g.S.Store old new w c.advance_if_committed.new.kept.world c.args.next.world tt change
    c.put_operator-committed.result c.advance_if_committed.result
    (made_enrolled g.S.Store old new w c.self.invariant _ c.args.operator.now c.args.ceiling
    (committed_as (λ name. PutsOperator name c.args.ceiling) c.as_str.ensures.value
    c.put_operator-committed.ensures.committed) c.as_str.ensures.valid next.fits)
    c.advance_if_committed.ensures next.world).1

pub returns-clause-cause : goal.returns-clause-cause
returns-clause-cause g c =
    rw (← c.self.view_is) (λ room.
    followed_blamed g.S.Store c.self.inside.connection c.put_operator-committed.new.connection
    c.self.inside.kept.world c.advance_if_committed.new.kept.world c.args.next.world tt c.put_operator-committed.result
    c.advance_if_committed.result c.self.invariant.unlimited c.advance_if_committed.ensures
    (c.put_operator-committed.ensures.committed.cause
    (subst IsShort (sym c.as_str.ensures.value) (name_short _ c.as_str.ensures.valid), room)))
